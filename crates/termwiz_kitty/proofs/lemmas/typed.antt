pub mod NoEscape
pub mod TypedCharacters
pub mod TypedTexts
