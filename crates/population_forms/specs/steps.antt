-- Steps on the way to a proof: a reader of what is promised need not believe these.
pub mod Marked
pub mod Knowing
pub mod Slots
pub mod ComputedReferences
pub mod Making
pub mod Forms
pub mod Tables
