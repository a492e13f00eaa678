-- Laws of a worn card. No contract cites them.
pub mod Cards
