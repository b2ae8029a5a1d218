pub mod FullyTold
pub mod legacy
pub mod PortKeys
pub mod PushedFields
pub mod read_back
pub mod SentPresses
pub mod typed
