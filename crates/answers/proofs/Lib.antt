-- Laws of the questions and of the calls. No contract cites them.
pub mod Accents
pub mod AllRefusals
pub mod Beside
pub mod Places
pub mod Nearest
pub mod Counts
pub mod Widths
pub mod Lit
pub mod Neighbours
pub mod Calls
pub mod Merging
pub mod Heads
pub mod Salvage
pub mod Example
pub mod Announcing
pub mod Routes
pub mod Converting
