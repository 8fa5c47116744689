pub mod Renewed
pub mod Meaning
