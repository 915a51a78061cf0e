-- Steps on the way to a proof: a reader of what is promised need not believe these.
pub mod Indices
pub mod Scopes
pub mod Forms
