pub mod Section
pub mod Rows
pub mod Layout
pub mod Limits
pub mod Pairs
