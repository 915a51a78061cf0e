-- Steps on the way to a proof: a reader of what is promised need not believe these.
pub mod Alike
pub mod Comparing
pub mod Growing
pub mod Values
pub mod Leaves
pub mod Selects
pub mod Making
pub mod Enumerated
pub mod Giving
pub mod Gathering
