-- What the sheet crate speaks of: sheets, what is answered of them, and what the program writes. What it promises is in `Promise`.
pub mod Sheet
pub mod Output
pub mod Promise
