pub mod Sums
pub mod Chains
pub mod Totals
pub mod Placed
pub mod Adding
pub mod BedSums
pub mod Permitted
