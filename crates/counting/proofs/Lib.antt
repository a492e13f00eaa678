-- Laws of counting the nodes. No contract cites them.
pub mod Counting
