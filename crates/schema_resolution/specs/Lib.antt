pub mod SchemaFindings
pub mod SoundGraphs
