-- Laws of a walk over the entries with a question. No contract cites them.
pub mod Counting
pub mod Steps
pub mod Placing
pub mod Widening
pub mod Replies
