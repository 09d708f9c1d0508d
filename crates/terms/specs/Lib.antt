pub mod Numbers
pub mod Ticks
pub mod Findings
