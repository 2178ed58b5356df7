pub mod HeldLines
pub mod HeldTables
pub mod Layouts
