-- Laws of the blind search; its words are in specs/Vocabulary.antt.
pub mod Cuts
pub mod Reach
pub mod Rows
pub mod Paths
pub mod Bytes
pub mod Exists
