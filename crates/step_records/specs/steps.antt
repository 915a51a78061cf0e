-- Steps on the way to a proof: a reader of what is promised need not believe these.
pub mod ComputedCodes
pub mod Building
pub mod Tokens
pub mod Places
pub mod Readers
pub mod Steps
pub mod Records
pub mod Names
pub mod Instances
