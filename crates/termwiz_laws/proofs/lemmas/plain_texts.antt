pub mod ControlRows
pub mod CharactersInTurn
