pub mod Counted
pub mod Merging
pub mod Again
mod Refusing
pub mod Answering
mod Outcome
pub mod Oneness
pub mod Told
