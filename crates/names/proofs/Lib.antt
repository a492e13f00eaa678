-- Laws of reading a name back.
pub mod Rebuilding
