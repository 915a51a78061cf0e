pub mod NumberedTypes
pub mod ShapeTables
pub mod Laws
pub mod Items
pub mod steps
