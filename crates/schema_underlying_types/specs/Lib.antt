pub mod BaseViews
pub mod BaseEntries
pub mod Tables
pub mod steps
