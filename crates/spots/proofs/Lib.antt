-- Laws of what a question comes to, in the shapes that the functions need. No contract cites them.
pub mod Spots
