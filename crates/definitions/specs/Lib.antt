-- What document 01 and the landed requests of document 02 say, as definitions: this crate is what a reader must believe.
-- The files follow the paper's order; what a request adds stands in a file of its own.
pub mod Basics
pub mod Limits
pub mod Syntax
pub mod Layout
pub mod Spelling
pub mod Questions
pub mod Plans
pub mod Sheets
pub mod Isolation
pub mod Outcomes
pub mod Writer
pub mod Lookup
pub mod Joining
pub mod Parents
pub mod Boundary
pub mod Output
pub mod Computing
pub mod Examples
pub mod Cases
pub mod Edges
pub mod Requests
pub mod ParentCases
pub mod ReadCases
