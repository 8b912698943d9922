-- What the crate of logs speaks of: the parts of a log, which bytes are one, and its refusals. What it promises is in `Promise`.
pub mod Layout
pub mod Block
pub mod Record
pub mod Check
pub mod Written
pub mod Promise
