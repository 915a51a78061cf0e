pub mod Faults
pub mod Lines
pub mod Stores
pub mod steps
