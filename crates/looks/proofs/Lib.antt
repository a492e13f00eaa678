-- Laws of the looks at a record. No contract cites them.
pub mod Entry
