-- The laws of stamps, and the proofs of what is promised of them.
pub mod Times
pub mod Promise
