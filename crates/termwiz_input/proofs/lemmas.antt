pub mod KeyChains
pub mod heads
pub mod items
pub mod mouse
pub mod pastes
pub mod pieces
pub mod time
