-- What rests on the definitions and statements of specs/.
pub mod First
pub mod Sorting
pub mod Combining
pub mod Occurrences
pub mod Parts
pub mod Growing
