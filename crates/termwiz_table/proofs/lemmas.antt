pub mod InsertedRows
