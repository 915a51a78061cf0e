pub mod Settings
pub mod steps
