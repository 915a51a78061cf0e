-- Steps on the way to a proof: a reader of what is promised need not believe these.
pub mod Numbers
pub mod ComputedKinds
pub mod ComputedMarks
pub mod References
pub mod ComputedReferences
pub mod ComputedLabelling
pub mod ComputedFlat
pub mod ShapeLaws
pub mod ComputedShapes
pub mod Signatures
