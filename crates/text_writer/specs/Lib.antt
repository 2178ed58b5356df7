-- Texts written into a lent area, one after another, and parts in brackets as they are written.
pub mod Wrote
pub mod Parts
