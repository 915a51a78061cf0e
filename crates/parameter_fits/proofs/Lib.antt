pub mod Numbered
pub mod Elements
pub mod Pushed
pub mod Sorted
mod Bagged
pub mod Forms
pub mod Pointwise
pub mod Enumerated
mod Integers
