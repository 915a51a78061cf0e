pub mod AskedSources
pub mod SourceViews
pub mod StoredAttributes
pub mod Tables
pub mod steps
