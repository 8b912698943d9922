-- Laws of lines.
pub mod Adding
