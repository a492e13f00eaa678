-- Laws of the trailer. No contract cites them.
pub mod Telling
