pub mod Entries
pub mod Pairs
