pub mod Pasting
pub mod Counts
pub mod Allowed
