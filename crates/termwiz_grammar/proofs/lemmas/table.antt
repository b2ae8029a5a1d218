pub mod ComputedTests
pub mod SequenceFacts
pub mod RowShape
pub mod TableAsMap
