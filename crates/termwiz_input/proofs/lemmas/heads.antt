pub mod FirstHighByte
pub mod HeadLookup
pub mod StartsNoSequence
