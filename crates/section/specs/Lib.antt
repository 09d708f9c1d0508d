pub mod Layout
pub mod Sections
pub mod Numbers
