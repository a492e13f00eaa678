pub mod Open
pub mod Writing
