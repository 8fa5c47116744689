pub mod HeldLaws
pub mod TaskLaws
pub mod IndexedLaws
pub mod OrderLaws
pub mod MachineLaws
pub mod LinesLaws
pub mod Worked
pub mod LotLaws
