pub mod BoardLaws
pub mod CallLaws
