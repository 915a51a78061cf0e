mod FirstTypes
mod FirstShapes
mod Origins
pub mod Gathered
pub mod Redeclared
pub mod Rows
pub mod ByName
pub mod Telling
pub mod Meaning
