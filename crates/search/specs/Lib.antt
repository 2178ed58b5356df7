pub mod Decided
pub mod Lowest
pub mod Walks
pub mod Trees
