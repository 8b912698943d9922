-- The laws of the rules and of the reading of histories, and the proofs of what they promise.
pub mod Computes
pub mod Rules
pub mod Speed
pub mod Replies
pub mod Looking
pub mod Written
pub mod Sessions
pub mod Opened
pub mod Starts
pub mod Demand
pub mod OneReading
pub mod History
pub mod Legal
pub mod Identifiers
pub mod Alike
pub mod Promise
