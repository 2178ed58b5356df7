-- What join gives back.
pub mod Outcomes
