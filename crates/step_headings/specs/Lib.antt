pub mod Headings
pub mod steps
