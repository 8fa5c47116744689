pub mod Words
pub mod Signed
pub mod Text
pub mod Digits
