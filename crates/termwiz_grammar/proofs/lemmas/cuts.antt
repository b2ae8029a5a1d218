pub mod ChunkInvariance
pub mod FewEvents
pub mod Streams
