-- Request #107: what is proved of parents made from the graph of shared tables.
pub mod Made
pub mod Chosen
pub mod Accepted
pub mod Least
pub mod Same
pub mod Promises
