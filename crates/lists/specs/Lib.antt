-- Laws of lists, tests and options that the kit's library does not have.
pub mod Tests
pub mod Members
pub mod Every
pub mod Keep
pub mod Maps
pub mod Below
pub mod Rising
pub mod Loops
pub mod Filling
pub mod Rows
pub mod Last
