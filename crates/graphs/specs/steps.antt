-- Steps on the way to a proof: a reader of what is promised need not believe these.
pub mod Placings
pub mod Forests
pub mod Telling
pub mod Spans
pub mod Marking
