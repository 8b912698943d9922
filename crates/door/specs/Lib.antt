-- What the door speaks of: reads, last words, and the turns of a program that answers questions.
pub mod Reads
pub mod Words
pub mod Turns
