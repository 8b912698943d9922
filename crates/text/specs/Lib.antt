-- What the text crate speaks of: figures, words, and text in a lent buffer.
pub mod Figures
pub mod Letters
pub mod Put
pub mod Written
pub mod Promise
pub mod Puts
