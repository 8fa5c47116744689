pub mod Lines
pub mod Linking
pub mod Dealing
