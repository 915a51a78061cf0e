mod Literals
mod Capitals
mod Saying
pub mod Agreeing
pub mod Adding
pub mod Finding
pub mod Walking
pub mod Choosing
