pub mod Readings
pub mod Determined
pub mod Answered
pub mod Lists
pub mod Leading
pub mod Running
pub mod Shown
pub mod Turning
pub mod Taking
pub mod Faults
pub mod Wider
pub mod Texts
pub mod Ending
pub mod Accepted
pub mod Examples
mod Buffers
mod Levels
pub mod Grown
