-- Laws of text: putting one text after another, the figures of numbers, and what a writer answers.
pub mod Put
pub mod Figures
pub mod Fitted
pub mod Promise
pub mod Puts
