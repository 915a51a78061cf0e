pub mod Outcomes
pub mod ReportCounts
pub mod Laws
