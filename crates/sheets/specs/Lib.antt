-- The rows of a clinic's sheet.
pub mod Steps
pub mod Sheets
