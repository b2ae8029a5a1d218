mod Examples
pub mod lemmas
