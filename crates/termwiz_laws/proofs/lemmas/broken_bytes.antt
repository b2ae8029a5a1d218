pub mod BrokenItems
pub mod CutCharacters
pub mod FirstBytesOfNone
