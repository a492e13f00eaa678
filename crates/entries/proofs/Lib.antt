-- Laws of reading entries. No contract cites them.
pub mod Reading
