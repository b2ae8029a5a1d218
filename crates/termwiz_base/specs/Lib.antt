pub mod Bits
pub mod Control
pub mod Kitty
pub mod Laws
pub mod Modifiers
pub mod Mouse
