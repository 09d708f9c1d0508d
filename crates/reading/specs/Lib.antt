pub mod Plain
pub mod Listings
