pub mod Candidates
pub mod Weeks
pub mod Profits
pub mod ProductRules
pub mod Words
