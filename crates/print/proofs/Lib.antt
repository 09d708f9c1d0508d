mod Rooms
pub mod Points
