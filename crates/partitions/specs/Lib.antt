pub mod Inverse
pub mod Layouts
pub mod Refinements
pub mod Views
pub mod steps
