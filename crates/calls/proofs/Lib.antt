pub mod PrefixLaws
pub mod SheetLaws
pub mod AgainLaws
pub mod Demand3
