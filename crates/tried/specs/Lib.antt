pub mod Telling
pub mod Cases
