pub mod LatestLaws
pub mod TaskLaws
pub mod LastLaws
pub mod WeightLaws
pub mod NoNan
pub mod Worked
