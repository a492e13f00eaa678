-- Laws of two lists that are read. No contract cites them.
pub mod Heads
pub mod Passing
pub mod Showing
