-- What maintenance mode speaks of: settings and messages, and in `Means` what the definitions mean in plain numbers and bytes. What is promised of them
-- is in `Promise`.
pub mod Settings
pub mod Messages
pub mod Means
pub mod Promise
