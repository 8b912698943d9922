-- What the program that replays a log promises of its last word.
pub mod LastWord
