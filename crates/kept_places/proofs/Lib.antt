pub mod Strides
pub mod Linking
pub mod Moving
