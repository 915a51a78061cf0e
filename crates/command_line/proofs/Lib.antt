mod Examples
pub mod Asking
pub mod Finishing
pub mod Giving
pub mod Levels
pub mod Rows
pub mod Settling
pub mod Steps
pub mod Walking
