pub mod ClonedEntries
pub mod EntriesInOrder
pub mod ExactStays
pub mod KeysInEntries
pub mod RemovedEntries
pub mod ReplacedEntries
