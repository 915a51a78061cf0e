pub mod References
pub mod Crowds
pub mod Agreement
pub mod ByShapes
mod Changes
pub mod Renaming
pub mod Deciding
pub mod Labelled
pub mod Sorting
pub mod NormalForms
mod Asking
mod Apart
mod Places
mod Counting
pub mod Leading
mod Referring
pub mod Reordered
mod Built
pub mod Reading
pub mod Weights
pub mod Walks
