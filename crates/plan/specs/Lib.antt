pub mod Plans
pub mod Runs
pub mod States
pub mod Attempts
