pub mod NumberTexts
pub mod LineWords
pub mod Parsing
pub mod Entries
pub mod Goings
pub mod Holding
pub mod TableGoing
pub mod Unbroken
pub mod Readings
pub mod Lining
pub mod Printed
mod Examples
mod Deciding
mod EachText
