pub mod CallSequence
pub mod KeysFromPieces
pub mod NumberedEvents
