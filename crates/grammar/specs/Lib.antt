pub mod Sections
pub mod Ranges
pub mod Rules
