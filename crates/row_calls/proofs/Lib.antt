pub mod RowCalls
