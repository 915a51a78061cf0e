pub mod Turns
pub mod Found
pub mod Rowwise
pub mod Orders
pub mod Headed
pub mod Copied
pub mod RowsMade
mod Moved
