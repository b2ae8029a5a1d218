pub mod EncodedPresses
pub mod KittyPresses
pub mod LegacyTwins
pub mod SentPresses
pub mod Twins
