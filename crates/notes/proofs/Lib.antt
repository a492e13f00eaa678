-- Laws of notes. No contract cites them.
pub mod Noting
