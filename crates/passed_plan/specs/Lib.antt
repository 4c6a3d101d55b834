pub mod Judgement
pub mod Shown
