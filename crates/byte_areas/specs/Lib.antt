pub mod Room
pub mod Costs
pub mod Results
