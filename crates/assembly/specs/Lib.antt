pub mod Whole
pub mod Plans
