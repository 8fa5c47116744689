pub mod WeighLaws
pub mod TimeLaws
pub mod TryLaws
pub mod TabooLaws
pub mod SixPlaces
pub mod Worked
pub mod CopyLaws
