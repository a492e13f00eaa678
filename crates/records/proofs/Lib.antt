-- Laws of a list that is read. No contract cites them.
pub mod Notes
pub mod Names
pub mod Alike
pub mod Above
pub mod Reading
pub mod Starts
pub mod Verdicts
pub mod Putting
