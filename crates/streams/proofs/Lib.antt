-- Laws of the entries as they stand in bytes. No contract cites them.
pub mod Streams
pub mod Steps
pub mod Fronts
pub mod Blocks
pub mod Places
pub mod Walks
pub mod Here
pub mod InBlocks
pub mod Rereading
pub mod Alone
pub mod Laid
