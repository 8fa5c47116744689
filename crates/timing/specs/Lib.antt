pub mod Timing
pub mod Exactly
pub mod Ordering
pub mod Placing
