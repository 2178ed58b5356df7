-- What is written of the rows that an area holds.
pub mod Writing
