-- Laws of the whole book. No contract cites them.
pub mod WholeBook
