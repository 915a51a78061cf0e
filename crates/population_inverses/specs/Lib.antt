pub mod InverseReferences
pub mod Extents
pub mod steps
