pub mod Bounds
pub mod Changes
pub mod Passed
pub mod New
pub mod Going
