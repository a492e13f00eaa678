-- Laws of judging entries. No contract cites them.
pub mod Judging
