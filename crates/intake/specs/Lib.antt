pub mod Circle
pub mod Intake
pub mod Sound
