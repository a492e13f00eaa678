pub mod Streams
pub mod Runs
