pub mod ItemByHead
pub mod PrintableAscii
pub mod FrontItem
