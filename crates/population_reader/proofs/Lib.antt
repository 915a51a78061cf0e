pub mod Turns
pub mod Typed
pub mod Clean
pub mod Populating
pub mod Judged
pub mod Verdicts
pub mod Entities
