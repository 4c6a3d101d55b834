pub mod Contents
pub mod File
pub mod Lengths
