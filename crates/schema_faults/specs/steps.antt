-- Steps on the way to a proof: a reader of what is promised need not believe these.
pub mod Shown
pub mod Repeated
pub mod Parts
pub mod FirstNamed
pub mod Checks
pub mod Kinds
pub mod Clauses
