-- Laws of the writer of the node table. No contract cites them.
pub mod Open
pub mod Writing
