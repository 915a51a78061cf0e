-- Steps on the way to a proof: a reader of what is promised need not believe these.
pub mod Places
pub mod ComputedFirsts
pub mod ClassesAt
pub mod ComputedParents
pub mod ComputedStability
pub mod Splits
pub mod ComputedStarts
pub mod ComputedSplits
