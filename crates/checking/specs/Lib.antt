pub mod Reporting
pub mod Checks
pub mod Laws
