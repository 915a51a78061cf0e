pub mod Searching
pub mod Gathering
pub mod Parting
pub mod Agreement
