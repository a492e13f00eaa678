-- Laws of the walk over the blocks. No contract cites them.
pub mod Walking
