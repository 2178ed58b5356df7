pub mod Pricing
pub mod Costs
pub mod BedCosts
