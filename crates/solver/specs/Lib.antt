pub mod Outcomes
pub mod Honest
pub mod Telling
