pub mod Edges
pub mod steps
