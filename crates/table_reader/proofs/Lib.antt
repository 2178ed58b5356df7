pub mod HeldTables
