-- Steps on the way to a proof: a reader of what is promised need not believe these.
pub mod Letters
pub mod Reads
pub mod Predict
pub mod Steps
pub mod Sets
pub mod PassageLemmas
pub mod Faults
