pub mod Texts
pub mod Clinics
pub mod Sheets
pub mod Regions
pub mod Files
