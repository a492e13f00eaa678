-- Laws of merging. No contract cites them.
pub mod Joining
pub mod Merging
