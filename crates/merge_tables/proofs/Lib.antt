pub mod Tabled
pub mod Coming
pub mod Last
