-- Steps on the way to a proof: a reader of what is promised need not believe these.
pub mod Declaring
pub mod Deriving
pub mod Lowest
pub mod Grouping
pub mod Defined
