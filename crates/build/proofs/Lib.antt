-- Laws of how a build ends. No contract cites them.
pub mod Ends
pub mod Building
