mod Lines
pub mod Failing
