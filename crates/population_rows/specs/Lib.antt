pub mod Index
pub mod steps
