-- The laws of words and of signed numbers, which the functions' proofs and the crates above cite.
pub mod Tests
pub mod Words
pub mod Signed
