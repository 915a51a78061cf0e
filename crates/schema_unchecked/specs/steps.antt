-- Steps on the way to a proof: a reader of what is promised need not believe these.
pub mod Judging
pub mod Surveyed
pub mod Growing
pub mod Findings
pub mod Listing
pub mod Places
pub mod Rules
