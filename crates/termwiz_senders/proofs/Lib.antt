pub mod lemmas
pub mod MouseExamples
pub mod PasteExamples
