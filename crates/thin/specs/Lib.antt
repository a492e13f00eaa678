pub mod Edges
pub mod Frames
pub mod Forks
