pub mod Decode
pub mod WellDecoded
