pub mod Appended
pub mod Ended
pub mod Numerals
pub mod Written
