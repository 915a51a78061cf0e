pub mod Laws
pub mod steps
