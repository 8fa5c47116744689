pub mod Outcome
pub mod Timing
pub mod Asked
pub mod Demand3
