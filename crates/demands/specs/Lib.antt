pub mod FirstDemand
pub mod SecondDemand
pub mod ThirdDemand
pub mod ShutWeeks
pub mod OpeningMounted
pub mod RollOn
