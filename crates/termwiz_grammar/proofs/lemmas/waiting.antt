pub mod LongestBeginning
pub mod Pauses
pub mod RestKinds
pub mod RestShape
pub mod UndecidedBytes
