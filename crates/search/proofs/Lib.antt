-- Laws of the search, in the shapes that its functions need. No contract cites them.
pub mod Seats
