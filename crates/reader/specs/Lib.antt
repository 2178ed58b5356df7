pub mod Loading
pub mod Fine
