pub mod LineLaws
pub mod CellLaws
pub mod PairLaws
pub mod MoveLaws
pub mod HeldLaws
pub mod StandingLaws
pub mod RelinkLaws
pub mod Worked
