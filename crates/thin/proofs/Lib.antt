-- Laws of the right edge; its words are in specs/.
pub mod Edges
pub mod Frames
pub mod Growing
pub mod Reaching
pub mod Forks
