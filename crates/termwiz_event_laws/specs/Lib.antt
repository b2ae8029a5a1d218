pub mod EventLaws
pub mod PasteRuns
pub mod ReplyLaws
