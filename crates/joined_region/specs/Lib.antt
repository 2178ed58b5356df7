-- What two held regions say when they are joined.
pub mod Behind
pub mod Joined
