pub mod Settled
pub mod Least
pub mod Telling
pub mod Counted
mod Ruleless
mod Stating
mod Tried
mod Worded
