-- What rests on the definitions and statements of specs/.
pub mod Beds
pub mod Splitting
pub mod Whole
pub mod Branches
pub mod Walk
pub mod Parts
