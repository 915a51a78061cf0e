pub mod Findings
pub mod steps
