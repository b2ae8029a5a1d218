pub mod Pastes
pub mod PasteLaws
pub mod MouseTexts
pub mod MouseLaws
pub mod ReportTexts
pub mod KeyTexts
pub mod RowKeys
pub mod EventTexts
