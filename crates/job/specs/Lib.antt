pub mod Numbers
pub mod Strides
pub mod Points
pub mod Rows
pub mod Bounds
