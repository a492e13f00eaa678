-- Laws of words and of rising lists. No contract cites them.
pub mod Lists
pub mod Words
pub mod Rising
pub mod Members
