pub mod Ordered
pub mod Partitions
pub mod Numbered
pub mod Standard
mod Agreeing
mod Refining
mod Firsts
mod Writing
mod Heading
mod Finding
