pub mod Rows
pub mod Looking
