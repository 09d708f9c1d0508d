pub mod Stated
pub mod Sums
pub mod Findings
pub mod Floors
