pub mod Numbers
pub mod Words
pub mod Edges
pub mod Laws
pub mod Schemas
pub mod steps
