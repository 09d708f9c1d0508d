pub mod Lines
pub mod Nearest
pub mod Runs
