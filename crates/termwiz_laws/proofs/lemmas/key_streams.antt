pub mod EachFlushed
pub mod NoFlush
pub mod OneKeyTexts
pub mod FourKeys
