pub mod Refused
pub mod Upholding
pub mod Taking
pub mod Amending
pub mod Keeping
pub mod Showing
pub mod Running
pub mod Opened
