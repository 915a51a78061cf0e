pub mod Commands
pub mod Clap
pub mod Requests
pub mod steps
