pub mod EndLaws
pub mod Worked
pub mod Theorem
