-- Laws of the frames. No contract cites them.
pub mod Frames
