pub mod SheetRows
pub mod Orderly
pub mod Complete
