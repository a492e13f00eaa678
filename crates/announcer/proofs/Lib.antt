-- Laws of what the announcer hears, of its calls' ways out, and of the loop that puts its clips. No contract cites them.
pub mod Hearing
pub mod Speaking
pub mod Putting
