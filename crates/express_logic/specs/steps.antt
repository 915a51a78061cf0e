-- Steps on the way to a proof: a reader of what is promised need not believe these.
pub mod Left
pub mod Taking
pub mod Steps
