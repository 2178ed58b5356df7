pub mod Parts
pub mod Comparing
pub mod Own
pub mod Keeping
pub mod Walking
pub mod Given
