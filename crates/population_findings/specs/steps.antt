-- Steps on the way to a proof: a reader of what is promised need not believe these.
pub mod Keywords
pub mod Rows
pub mod Making
pub mod Judging
pub mod Counting
pub mod SchemaNames
