pub mod OneReport
pub mod ReportNumbers
