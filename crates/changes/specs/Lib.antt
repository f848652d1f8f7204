pub mod Changes
pub mod Standing
