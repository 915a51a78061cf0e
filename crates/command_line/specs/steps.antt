-- Steps on the way to a proof: a reader of what is promised need not believe these.
pub mod AskedMerges
pub mod Options
