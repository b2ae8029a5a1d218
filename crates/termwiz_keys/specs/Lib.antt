pub mod Buttons
pub mod Encoding
pub mod Events
pub mod FunctionCodes
pub mod KeyCodes
pub mod Keys
pub mod Introducers
