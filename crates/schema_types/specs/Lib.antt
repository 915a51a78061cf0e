pub mod Resolution
pub mod TypeTables
pub mod steps
