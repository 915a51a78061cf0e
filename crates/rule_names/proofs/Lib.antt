pub mod First
pub mod Saying
pub mod Letters
pub mod Spelt
pub mod Enumerations
pub mod Indexed
