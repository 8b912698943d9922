-- The laws of the codec's definitions, and the proofs of its promise.
pub mod Table
pub mod Found
pub mod Pages
pub mod Limits
pub mod Reading
pub mod Building
pub mod ReadsBack
pub mod ReadBytes
pub mod BuildsBack
pub mod Promise
