pub mod RunTables
pub mod Model
pub mod Match
pub mod SmallPlant
pub mod Rolled
