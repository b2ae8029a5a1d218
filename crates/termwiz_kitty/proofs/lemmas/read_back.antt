pub mod Decimals
pub mod FieldSplits
pub mod WrittenFields
pub mod WrittenReports
pub mod KeysOfForms
pub mod SequenceForms
pub mod SequencesMean
