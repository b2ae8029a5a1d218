pub mod forms
pub mod items
pub mod cuts
pub mod waiting
