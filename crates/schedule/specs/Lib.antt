pub mod Endings
pub mod Evenly
