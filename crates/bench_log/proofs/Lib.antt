-- Laws of logs, and what the crate of logs promises, proved.
pub mod Parts
pub mod Records
pub mod Checks
pub mod Runs
pub mod Spelled
pub mod Blocks
pub mod Logs
pub mod Told
pub mod Promise
