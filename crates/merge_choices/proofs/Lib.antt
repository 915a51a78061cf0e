pub mod Cases
pub mod Entities
pub mod Marking
mod Copies
