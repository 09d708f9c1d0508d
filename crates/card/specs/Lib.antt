pub mod Faults
pub mod Cards
pub mod Contents
pub mod Laws
pub mod Faulty
pub mod Held
pub mod Grids
