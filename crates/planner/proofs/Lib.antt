pub mod HandedBack
pub mod Refused
