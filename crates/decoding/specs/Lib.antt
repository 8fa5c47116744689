pub mod Decoding
pub mod Rule
