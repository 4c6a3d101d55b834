pub mod Kinds
pub mod Plant
pub mod Form
pub mod File
pub mod Same
pub mod Rates
pub mod Ranges
pub mod Accepted
