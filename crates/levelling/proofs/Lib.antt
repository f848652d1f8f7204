pub mod Boards
pub mod Improvements
pub mod Measure
pub mod Levelling
