pub mod Ends
pub mod Moves
pub mod Order
pub mod Lowering
pub mod Walks
pub mod Laws
pub mod Running
