pub mod Refused
pub mod Opened
pub mod Insides
pub mod Amended
pub mod Walking
pub mod Solving
pub mod Proposing
pub mod Offering
