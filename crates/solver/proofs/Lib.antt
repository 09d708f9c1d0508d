pub mod Printing
pub mod Truth
