pub mod Rules
pub mod Verdict
pub mod Products
pub mod Words
