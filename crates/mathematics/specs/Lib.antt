pub mod Below
pub mod Week
pub mod Order
