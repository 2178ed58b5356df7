-- The lines of a held region as they are written, and what that relies on.
pub mod Codes
pub mod Spelled
pub mod Writable
