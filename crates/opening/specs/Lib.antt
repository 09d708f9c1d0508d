pub mod Refusals
pub mod Firsts
pub mod Opening
pub mod Fits
pub mod Faults
