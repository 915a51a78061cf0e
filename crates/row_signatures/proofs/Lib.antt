mod Firsts
mod Numbering
mod Recent
mod Marking
mod Referring
mod Alike
mod OneShape
mod FirstPlaces
mod Shaping
mod Indexing
pub mod Naming
pub mod Zipping
pub mod Agreeing
pub mod MorePins
