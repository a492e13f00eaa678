pub mod Heads
pub mod Passing
