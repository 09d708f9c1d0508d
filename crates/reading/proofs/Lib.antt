pub mod Listed
pub mod Stated
pub mod Agreeing
pub mod Listings
