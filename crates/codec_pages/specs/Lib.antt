-- What the pages speak of, from document 01's sections "Refusal numbers" and "Reports and requests". What is promised is in
-- `Promise`, and in bytes and numbers in `Pages` and `Borders`; the table is in `Table`.
pub mod Frames
pub mod Alike
pub mod Table
pub mod Reports
pub mod Building
pub mod Requests
pub mod Told
pub mod Conditions
pub mod Held
pub mod Pages
pub mod Borders
pub mod Promise
