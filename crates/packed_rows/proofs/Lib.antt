pub mod Adding
pub mod Comparing
pub mod Equal
pub mod Packing
pub mod Taking
