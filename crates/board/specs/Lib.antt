pub mod Refusals
pub mod Meaning
pub mod Outcomes
pub mod Boards
