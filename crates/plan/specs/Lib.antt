pub mod Bettering
pub mod Inside
pub mod Solves
pub mod Standing
pub mod View
