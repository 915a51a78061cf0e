-- Steps on the way to a proof: a reader of what is promised need not believe these.
pub mod Sparing
pub mod Ruling
pub mod Checking
pub mod ComputedRuling
