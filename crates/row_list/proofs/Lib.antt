pub mod Reading
pub mod Writing
pub mod Placing
pub mod Moving
