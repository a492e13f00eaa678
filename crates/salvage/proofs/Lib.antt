-- Laws of saving the names of a worn card. No contract cites them.
pub mod Saving
