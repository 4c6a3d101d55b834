pub mod Number
pub mod Signed
