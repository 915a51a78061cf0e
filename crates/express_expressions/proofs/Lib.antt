pub mod ViewLemmas
pub mod Parts
pub mod Levels
pub mod Chains
pub mod Primaries
pub mod Readings
