pub mod Bounded
pub mod Placed
pub mod Turns
pub mod Inverting
pub mod Placing
pub mod Searched
pub mod Ruling
pub mod Meaning
