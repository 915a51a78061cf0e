pub mod FirstMembers
pub mod MergedRows
pub mod Agreeing
pub mod Stability
pub mod Finding
pub mod Parents
pub mod AtRounds
pub mod Climbing
pub mod Naming
mod Determining
mod Starting
mod SplitOff
mod Sharing
mod Standing
mod Owning
