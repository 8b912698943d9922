-- What the words crate speaks of: bytes as numbers, in either order, and signed numbers.
pub mod Words
pub mod Signed
