pub mod PopulationTables
pub mod Rows
pub mod TypedPopulations
pub mod PopulationViews
pub mod ValueOrder
pub mod steps
