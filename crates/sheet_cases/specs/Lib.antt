-- What the cases program speaks of: the answers of docs/SHEET_CASES.md.
pub mod Lines
