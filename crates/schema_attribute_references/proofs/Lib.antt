pub mod Filtering
pub mod Finding
pub mod Kindred
mod Gathered
mod Reached
mod Chosen
pub mod Members
pub mod Holding
pub mod Told
