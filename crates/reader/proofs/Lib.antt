pub mod ReadingLaws
pub mod AcceptedLaws
pub mod RefusalLaws
