pub mod ReportReading
