-- Laws of the last word.
pub mod LastWord
