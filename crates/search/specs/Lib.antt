pub mod Step
pub mod Asked
pub mod Saving
pub mod Search
