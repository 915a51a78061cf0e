pub mod Those
pub mod OwnRows
pub mod Placing
pub mod OfAttributes
pub mod Going
pub mod OfDeclarations
pub mod Told
