-- Laws of listings, and what the listing crate promises, proved.
pub mod Spaced
pub mod Further
pub mod Replaying
pub mod Bounds
pub mod Answers
pub mod Parts
pub mod Promise
