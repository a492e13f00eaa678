-- Laws of what is noted, and of the list with a name more or one less.
pub mod Unique
pub mod Cut
pub mod Noting
pub mod Running
pub mod Revising
pub mod Revised
