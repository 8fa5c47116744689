pub mod Regions
pub mod Tabled
pub mod Entries
pub mod Columns
pub mod Parts
pub mod Found
