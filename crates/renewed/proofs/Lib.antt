pub mod RenewedLaws
pub mod WordsLaws
pub mod SameLaws
pub mod MeaningLaws
pub mod ReadLaws
pub mod CarryLaws
pub mod TakenLaws
