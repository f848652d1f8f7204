pub mod Mixtures
pub mod Copying
pub mod Tables
