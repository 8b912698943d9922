-- What the program that reads an order sheet promises of its last word.
pub mod LastWord
