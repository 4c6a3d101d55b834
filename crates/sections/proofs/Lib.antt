pub mod Places
pub mod Tables
pub mod Rows
pub mod Bodies
pub mod Copies
pub mod Layouts
