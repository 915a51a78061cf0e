pub mod Behind
pub mod Ruled
pub mod Nothing
pub mod ByVerdict
mod Weak
mod Conforming
