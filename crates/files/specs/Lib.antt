pub mod Counts
pub mod Within
pub mod Numerals
