pub mod Shapes
pub mod Heads
pub mod Salvage
pub mod Routes
pub mod Endings
