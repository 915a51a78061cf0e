-- Steps on the way to a proof: a reader of what is promised need not believe these.
pub mod Taking
pub mod Entities
pub mod Choosing
pub mod Gathering
pub mod Named
pub mod Naming
