-- Steps on the way to a proof: a reader of what is promised need not believe these.
pub mod Coded
pub mod Flat
pub mod Seeking
pub mod Speaking
pub mod Unsought
pub mod Applying
pub mod Renamings
pub mod Wanted
pub mod Planning
