pub mod Mounted
pub mod Changeover
pub mod Money
