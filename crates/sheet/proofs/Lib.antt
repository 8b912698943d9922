-- Laws of sheets, and what the sheet crate promises, proved.
pub mod Judging
pub mod Sheets
pub mod Apart
pub mod Promise
