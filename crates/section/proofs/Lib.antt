pub mod Cutting
pub mod Spots
