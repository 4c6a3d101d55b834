pub mod State
pub mod Machine
pub mod Run
pub mod Bounds
pub mod Files
pub mod Row
pub mod Input
