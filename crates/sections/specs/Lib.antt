pub mod Letters
pub mod Turns
pub mod Lines
