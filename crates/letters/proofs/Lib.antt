-- Laws of going back over a question. No contract cites them.
pub mod Back
