pub mod TableFaults
pub mod steps
