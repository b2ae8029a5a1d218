pub mod Callback
pub mod Endings
pub mod Lines
pub mod Runs
pub mod Words
