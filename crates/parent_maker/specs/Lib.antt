-- What parents gives back.
pub mod Outcomes
