-- What write gives back.
pub mod Outcomes
pub mod Calls
