-- What the crate of a sheet's lines speaks of: the text of a line, and a line looked for in bytes. What it promises is in `Promise`.
pub mod Lines
pub mod Number
pub mod Reading
pub mod Promise
