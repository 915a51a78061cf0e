pub mod Graphs
pub mod Rounds
pub mod Closures
pub mod Orders
pub mod Laws
pub mod Referrers
pub mod steps
