pub mod Found
pub mod Searching
pub mod RowLists
pub mod Ordering
pub mod Gathered
pub mod Ranks
pub mod Placed
mod ForestOrders
mod Along
mod Sizing
mod Placing
mod Laying
mod Spreading
mod Cuts
