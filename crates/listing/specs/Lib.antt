-- What the listing crate speaks of: the lines of a listing, the listing of a log, and what the program writes. What it promises is in `Promise`.
pub mod Lines
pub mod Listing
pub mod Output
pub mod Promise
pub mod Records
