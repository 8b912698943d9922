-- What the cases program speaks of: the records and the lines of docs/CODEC_CASES.md.
pub mod Cases
pub mod Lines
pub mod Answers
