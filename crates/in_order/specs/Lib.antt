pub mod InOrder
pub mod Waiting
pub mod WellPlaced
