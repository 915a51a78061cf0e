pub mod Adding
pub mod Forms
pub mod Fitting
pub mod Meaning
pub mod Passing
pub mod Placing
pub mod Sifting
pub mod Testing
pub mod Walking
pub mod Limiting
mod Renaming
pub mod Wanting
pub mod Covering
pub mod Numbers
