pub mod Given
pub mod Setting
pub mod Fitting
