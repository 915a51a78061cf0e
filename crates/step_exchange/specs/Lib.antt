pub mod Views
pub mod Sections
pub mod Exchanges
pub mod steps
