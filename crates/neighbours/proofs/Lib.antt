-- Laws of what a name shares with the one before it. No contract cites them.
pub mod Behind
pub mod Ahead
pub mod Rest
pub mod Along
pub mod Meeting
