pub mod PositionLaws
pub mod WayLaws
pub mod RoomLaws
pub mod OfferLaws
pub mod SeenLaws
pub mod ReassignedLaws
pub mod MetLaws
pub mod Worked
