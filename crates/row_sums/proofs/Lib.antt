pub mod Joining
pub mod Copying
pub mod Finding
pub mod Skipping
