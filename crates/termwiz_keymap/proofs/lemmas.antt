pub mod entries
pub mod lists
pub mod rows
