pub mod LineLaws
pub mod SeatedLaws
pub mod LawfulLaws
pub mod InOrderLaws
pub mod ActiveLaws
pub mod WholeLaws
pub mod Theorem
pub mod Worked
