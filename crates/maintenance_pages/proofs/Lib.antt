-- The laws of settings and messages, and the proofs of their promise.
pub mod Messages
pub mod Settings
pub mod Told
pub mod Past
pub mod SerialWords
pub mod Promise
