pub mod Notes
pub mod Lists
pub mod Above
pub mod Putting
