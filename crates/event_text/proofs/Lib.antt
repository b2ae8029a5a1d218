pub mod FlagNames
pub mod Printed
