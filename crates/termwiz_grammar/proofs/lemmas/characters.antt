pub mod CharacterPrefixes
pub mod EndsWithinCharacter
pub mod LossyJoins
