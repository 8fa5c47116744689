pub mod Improving
