pub mod Fitting
pub mod Taking
pub mod Replanning
