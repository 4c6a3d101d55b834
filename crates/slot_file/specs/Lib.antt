pub mod Slots
pub mod Form
pub mod File
pub mod Row
pub mod Accepted
