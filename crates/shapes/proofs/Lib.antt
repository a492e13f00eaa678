-- Laws of the answers by themselves.
pub mod Shapes
pub mod Salvage
