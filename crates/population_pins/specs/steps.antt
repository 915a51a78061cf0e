-- Steps on the way to a proof: a reader of what is promised need not believe these.
pub mod Pinning
pub mod Classes
pub mod Elements
pub mod Holding
pub mod Slots
pub mod Forms
pub mod SupertypeLists
pub mod Rows
pub mod Runs
pub mod Sides
pub mod Bags
pub mod Gathering
