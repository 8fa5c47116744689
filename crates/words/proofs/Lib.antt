pub mod TextLaws
pub mod WordLaws
pub mod SignedLaws
pub mod DigitLaws
