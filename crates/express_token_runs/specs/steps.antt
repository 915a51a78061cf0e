-- Steps on the way to a proof: a reader of what is promised need not believe these.
pub mod Items
pub mod OpenRuns
pub mod Skips
