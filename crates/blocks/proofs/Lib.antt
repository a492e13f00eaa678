-- Laws of the writers of entries and block table. No contract cites them.
pub mod Writing
pub mod Walk
