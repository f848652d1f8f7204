pub mod Wire
pub mod Cuts
pub mod Fields
