-- Laws of symbols and of the comparison of names. No contract cites them.
pub mod Symbols
