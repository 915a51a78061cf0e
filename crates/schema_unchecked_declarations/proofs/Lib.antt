pub mod Joining
pub mod Listing
pub mod Layers
pub mod Turns
