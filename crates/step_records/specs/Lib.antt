pub mod Cells
pub mod Laws
pub mod Params
pub mod steps
