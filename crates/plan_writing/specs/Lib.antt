pub mod Ran
pub mod Bodies
pub mod Line
pub mod Files
