pub mod Taboo
pub mod History
pub mod Trial
