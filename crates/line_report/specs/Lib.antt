pub mod ReportText
pub mod SummaryText
pub mod Reported
pub mod Portions
pub mod Laws
