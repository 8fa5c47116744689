pub mod RowLaws
pub mod ListingLaws
pub mod KeptLaws
pub mod SightLaws
pub mod CallLaws
