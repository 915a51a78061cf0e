-- Steps on the way to a proof: a reader of what is promised need not believe these.
pub mod Targets
pub mod NodeCounts
pub mod ComputedCodes
pub mod Building
pub mod Slots
pub mod Ordering
