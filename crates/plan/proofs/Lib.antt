pub mod NumberLaws
pub mod RowLaws
pub mod WeightLaws
pub mod InputLaws
pub mod LaidLaws
pub mod Accepting
