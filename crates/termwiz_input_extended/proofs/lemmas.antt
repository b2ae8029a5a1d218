pub mod calls
pub mod forms
pub mod fronts
pub mod strings
