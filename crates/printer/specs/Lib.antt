-- The printed text of a file in a lent area, and what is asked and given on the way to it.
pub mod Printing
pub mod Steps
