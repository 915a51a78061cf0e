-- Steps on the way to a proof: a reader of what is promised need not believe these.
pub mod Contexts
pub mod Kept
pub mod Weights
pub mod Worths
