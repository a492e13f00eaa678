pub mod Rules
pub mod Parting
