-- Laws of how a batch opens and of its rows.
pub mod Rows
