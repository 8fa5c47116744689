pub mod Reassignments
pub mod Reassigning
