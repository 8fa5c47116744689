pub mod ArrivalLaws
pub mod LateLaws
pub mod SetupLaws
pub mod Worked
