mod Judging
mod Comparing
mod Accepting
mod Answering
pub mod Reading
mod Told
mod Levels
mod Reached
mod Refusals
mod Oneness
