pub mod Derivations
pub mod steps
