pub mod Narrowing
pub mod Flat
pub mod Counts
pub mod Moving
pub mod Carrying
pub mod Filling
pub mod Opening
