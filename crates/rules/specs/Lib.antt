-- The rules of document 01's section "The bench monitor", the reading of histories, and demand 3 in its own words. What is promised is in `Promise`.
pub mod Events
pub mod Rules
pub mod History
pub mod Demand
pub mod Replies
pub mod Given
pub mod Alike
pub mod Promise
