pub mod BareShop
pub mod CircleTables
pub mod TakingLaws
pub mod Soundness
pub mod Worked
