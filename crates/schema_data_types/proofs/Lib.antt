pub mod Classes
pub mod Walks
pub mod Relations
pub mod Elements
pub mod FormTables
pub mod Leading
pub mod Sets
pub mod Declared
pub mod Single
pub mod Known
mod Asked
mod Shown
mod Along
mod ShapeTables
mod Fitting
mod Parts
mod OneShape
mod FromTrees
mod Enumerated
pub mod Gathered
pub mod OwnRows
