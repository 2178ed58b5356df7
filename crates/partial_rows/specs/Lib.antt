-- Rows of a set of patients, where others have beds already.
pub mod Sets
pub mod Adding
pub mod Appending
pub mod Padding
pub mod Rows
pub mod Costs
pub mod Beds
pub mod Contexts
pub mod Splitting
pub mod Whole
pub mod Branches
pub mod Walk
pub mod Bounds
pub mod Parts
pub mod Trees
