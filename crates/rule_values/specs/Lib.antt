pub mod NamedValues
pub mod TableValues
pub mod Parts
pub mod Tables
pub mod Laws
pub mod steps
