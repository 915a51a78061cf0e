-- Steps on the way to a proof: a reader of what is promised need not believe these.
pub mod Targets
pub mod Led
pub mod References
pub mod Pushing
pub mod Gathering
pub mod Apart
pub mod Named
