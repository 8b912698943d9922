-- The proof of the marked cases.
pub mod Marked
