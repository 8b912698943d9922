-- Stamps and ticks: how they are compared and counted, and what is promised of that.
pub mod Times
pub mod Promise
