-- Laws of the way down, in the shapes that its functions need. No contract cites them.
pub mod Ways
pub mod Climbing
