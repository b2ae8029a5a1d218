pub mod EventCalls
pub mod DialectKept
