-- Rows whose beds are packed, four bits each.
pub mod Packed
pub mod Numbers
pub mod Laws
pub mod Packing
