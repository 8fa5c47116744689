pub mod StreamLaws
mod Filling
