pub mod Lengths
pub mod PlanReads
pub mod Access
pub mod PlanIsFile
pub mod FileIsPlan
pub mod SamePlans
