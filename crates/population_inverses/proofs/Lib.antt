pub mod Once
pub mod Walking
pub mod Held
pub mod Named
pub mod Valued
pub mod Adding
pub mod Numbered
pub mod Placing
