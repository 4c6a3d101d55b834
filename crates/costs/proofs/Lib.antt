pub mod Changeovers
