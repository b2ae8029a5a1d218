pub mod CompletedRows
