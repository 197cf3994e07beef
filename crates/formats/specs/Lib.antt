pub mod Sheets
pub mod SheetLaws
pub mod Seen
pub mod Traces
pub mod TraceLaws
pub mod Shown
pub mod Reports
pub mod ReportLaws
