-- Laws of two lists that are judged. No contract cites them.
pub mod Judging
