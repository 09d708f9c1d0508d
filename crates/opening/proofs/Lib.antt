pub mod Firsts
pub mod Fitting
pub mod Naming
pub mod Slips
