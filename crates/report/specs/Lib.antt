pub mod Text
pub mod Stored
pub mod Report
pub mod Weeks
pub mod Files
