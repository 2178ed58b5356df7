-- What read answers.
pub mod Called
