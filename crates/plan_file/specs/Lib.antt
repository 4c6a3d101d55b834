pub mod Plan
pub mod Form
pub mod File
pub mod Tables
pub mod Accepted
