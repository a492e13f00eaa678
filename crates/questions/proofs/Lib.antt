-- Laws of the questions.
pub mod Asking
