pub mod encoding
pub mod equality
