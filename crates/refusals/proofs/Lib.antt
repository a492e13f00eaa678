-- Laws of refusals. No contract cites them.
pub mod Codes
