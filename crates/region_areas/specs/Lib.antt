-- The numbers of a held region, part by part.
pub mod Laid
