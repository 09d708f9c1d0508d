pub mod Bytes
pub mod Kinds
pub mod Blocks
pub mod Checks
pub mod Notices
pub mod Laws
pub mod Writes
