pub mod Problem
pub mod Input
pub mod Found
pub mod Accepted
pub mod Laid
