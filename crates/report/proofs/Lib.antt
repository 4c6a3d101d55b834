pub mod Decimal
pub mod StoredText
pub mod Signs
pub mod WeekText
pub mod PassedText
pub mod FirstLine
