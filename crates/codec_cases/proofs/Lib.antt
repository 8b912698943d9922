-- Laws of questions.
pub mod Known
