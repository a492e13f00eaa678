pub mod Words
pub mod Rising
