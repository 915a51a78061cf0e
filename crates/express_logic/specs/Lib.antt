pub mod Logic
pub mod Literals
pub mod Data
pub mod Comparison
pub mod Holdings
pub mod Views
pub mod Laws
pub mod steps
