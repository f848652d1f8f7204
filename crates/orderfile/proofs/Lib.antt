pub mod Frames
pub mod Turns
pub mod Loop
pub mod Heads
pub mod Cleared
