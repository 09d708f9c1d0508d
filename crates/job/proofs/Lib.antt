pub mod Strides
pub mod Given
pub mod Reading
pub mod Scoring
pub mod Outside
pub mod Holding
pub mod Gradient
pub mod Making
