pub mod KeepLaws
pub mod StreamLaws
pub mod EveryLaws
