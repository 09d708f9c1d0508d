pub mod Numbers
pub mod Gathering
pub mod Writing
pub mod Reading
pub mod Loading
pub mod Laws
