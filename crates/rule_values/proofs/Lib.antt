pub mod Elements
pub mod Indexed
pub mod Naming
pub mod Items
pub mod Tabled
pub mod Worth
mod Examples
pub mod Kept
pub mod Scopes
