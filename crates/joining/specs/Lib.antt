-- Request #106: what is proved of two regions joined into one file.
pub mod Shifting
pub mod Joined
pub mod Accepted
pub mod Totals
pub mod Lists
pub mod Sheets
pub mod Promises
