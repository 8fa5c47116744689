pub mod SeatLaws
pub mod BoardLaws
