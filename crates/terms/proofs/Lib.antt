pub mod Bits
pub mod Fitting
pub mod Saturating
pub mod Firsts
pub mod Reading
