pub mod SizedLaws
pub mod ShownLaws
