pub mod KeysReadBack
pub mod ListedExamples
pub mod RuleReader
pub mod WholeTexts
