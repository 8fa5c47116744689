pub mod Indexed
pub mod Held
pub mod Lot
