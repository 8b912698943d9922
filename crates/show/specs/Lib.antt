-- What the lines of answers speak of.
pub mod Lines
