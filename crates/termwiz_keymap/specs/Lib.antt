pub mod Bytes
pub mod Entries
pub mod InBlocks
pub mod KeyRanges
pub mod KeyRows
pub mod KeysInOrder
pub mod Lookup
pub mod Remembering
