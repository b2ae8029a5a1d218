pub mod FlushedBeginnings
pub mod MoreEvents
pub mod NothingLeft
pub mod PlainItems
pub mod SeparateEscapes
