pub mod Board
pub mod Sound
