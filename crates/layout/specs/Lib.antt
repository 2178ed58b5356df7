pub mod Taken
pub mod Reading
pub mod TableLines
pub mod LaidOut
