pub mod Store
pub mod Number
pub mod TwosComplement
pub mod ByteLists
