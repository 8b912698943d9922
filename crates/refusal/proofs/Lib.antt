-- The laws of the refusals: no two numbers alike, and the first condition that holds decides.
pub mod Refusals
pub mod Conditions
