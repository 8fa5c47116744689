pub mod Estimates
pub mod Weighing
pub mod BlockMoves
pub mod Keeping
pub mod Scanning
