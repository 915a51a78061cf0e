pub mod Tables
pub mod steps
