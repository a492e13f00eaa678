pub mod Layouts
pub mod Demands
pub mod Widths
pub mod Unions
pub mod Letters
pub mod Salvage
pub mod Folding
pub mod Announcing
