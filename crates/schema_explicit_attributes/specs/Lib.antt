pub mod Supertypes
pub mod Places
pub mod SupertypeLines
pub mod steps
