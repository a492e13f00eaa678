-- Laws of the check.
pub mod Opens
pub mod Judging
