pub mod LineEnds
pub mod Sums
pub mod Forms
