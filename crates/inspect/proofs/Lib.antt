-- Laws of the check of a node table. No contract cites them.
pub mod Nodes
pub mod Nesting
pub mod Rows
pub mod Table
