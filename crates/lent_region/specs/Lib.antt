pub mod CutOff
pub mod CutStands
pub mod Lent
