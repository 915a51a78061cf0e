-- Steps on the way to a proof: a reader of what is promised need not believe these.
pub mod Tables
pub mod Asked
pub mod Making
