-- Steps on the way to a proof: a reader of what is promised need not believe these.
pub mod ComputedClosure
pub mod Faults
pub mod ComputedCodes
pub mod ComputedPlaces
pub mod ComputedKinds
pub mod ComputedImages
pub mod ComputedHeads
