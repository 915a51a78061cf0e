pub mod Verdicts
pub mod steps
