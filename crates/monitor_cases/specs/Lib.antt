-- What the cases program speaks of: the records and the lines of docs/MONITOR_CASES.md, and the monitor that is on.
pub mod Cases
pub mod Monitors
pub mod Lines
pub mod Answers
