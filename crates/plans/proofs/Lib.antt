pub mod Searched
pub mod Moves
pub mod Crossed
pub mod Theorem
