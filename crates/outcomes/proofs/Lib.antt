pub mod Theorem
pub mod ContractLaws
