-- Steps on the way to a proof: a reader of what is promised need not believe these.
pub mod Births
pub mod Grounds
pub mod Moves
pub mod ComputedMembers
pub mod ComputedUndoing
pub mod ComputedWalk
