pub mod Clinics
pub mod Sheets
