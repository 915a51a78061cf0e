pub mod Explicits
pub mod Places
pub mod Asked
pub mod Meaning
