pub mod Noting
pub mod Revising
