pub mod Lines
pub mod MergeLines
pub mod SchemaLines
pub mod Faults
pub mod Devices
pub mod SameFaults
