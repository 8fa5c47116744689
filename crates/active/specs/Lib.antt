pub mod Active
pub mod Kept
pub mod Asked
pub mod ActivePlaced
