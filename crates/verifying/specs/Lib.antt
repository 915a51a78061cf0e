pub mod Verifying
pub mod Sources
pub mod Laws
pub mod steps
