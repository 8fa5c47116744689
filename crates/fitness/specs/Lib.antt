pub mod Fitness
pub mod Ended
pub mod Rising
