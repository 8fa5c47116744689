pub mod Placing
pub mod Path
pub mod Walking
pub mod Tails
pub mod Following
