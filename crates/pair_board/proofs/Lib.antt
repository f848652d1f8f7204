pub mod Lookups
pub mod Writes
pub mod Steps
pub mod Given
