pub mod Shrinking
pub mod Laws
pub mod steps
