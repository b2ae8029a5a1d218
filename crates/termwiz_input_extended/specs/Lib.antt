pub mod Buffered
pub mod EventCallbacks
pub mod ExtendedExpiry
pub mod NextItems
pub mod FormAnswers
pub mod StringAnswers
