pub mod ItemStable
pub mod OneHead
pub mod OneItem
