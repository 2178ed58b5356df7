-- Printed rows: what the writers ask, the parts of what they write, and how long it is.
pub mod Printing
pub mod Lines
pub mod Sizes
pub mod Shares
pub mod Whole
