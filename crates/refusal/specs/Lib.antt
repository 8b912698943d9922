-- What the refusal crate speaks of: the paper's number of each refusal, and the conditions they are given by, in order.
pub mod Refusals
pub mod Conditions
