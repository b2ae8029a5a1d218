pub mod EncodedBytes
pub mod NoSequence
