-- Laws of a book that is turned into one of another kind. No contract cites them.
pub mod Conversion
pub mod Other
