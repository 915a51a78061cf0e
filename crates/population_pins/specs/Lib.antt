pub mod Lists
pub mod PopulationPins
pub mod steps
