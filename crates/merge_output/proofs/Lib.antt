pub mod FirstHeads
pub mod Held
