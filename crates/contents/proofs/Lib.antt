pub mod Entries
pub mod Facts
pub mod FileLayout
pub mod FileWritten
pub mod FileStored
