pub mod Encoding
pub mod Steps
pub mod Reads
pub mod Laws
