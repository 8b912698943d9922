-- The laws of the bench, and the proofs of its promise.
pub mod Events
pub mod Reached
pub mod WorkedOut
pub mod Runs
pub mod Promise
