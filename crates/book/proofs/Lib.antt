-- Laws of the public calls.
pub mod Reading
pub mod Filling
pub mod Batching
pub mod Salvaging
pub mod Merging
pub mod Walking
pub mod Front
pub mod Arms
