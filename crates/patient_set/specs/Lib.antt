pub mod Sets
pub mod Laws
