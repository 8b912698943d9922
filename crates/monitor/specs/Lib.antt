-- The monitor on the bench: refusals, and what stands there after a history. What it promises is in `Promise`.
pub mod Bench
pub mod Told
pub mod Promise
