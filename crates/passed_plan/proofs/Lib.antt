pub mod Firsts
pub mod PassedFacts
pub mod Mapped
