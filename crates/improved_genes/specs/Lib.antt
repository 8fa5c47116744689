pub mod Written
pub mod EveryEntry
pub mod Reassigned
