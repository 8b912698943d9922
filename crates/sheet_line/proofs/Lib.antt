-- Laws of a sheet's lines, and what their crate promises, proved.
pub mod Numbers
pub mod Places
pub mod Promise
