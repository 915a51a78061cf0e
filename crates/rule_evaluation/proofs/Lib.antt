pub mod Ranked
pub mod Walking
pub mod Weighing
pub mod Arms
pub mod Unnamed
pub mod Items
pub mod Sizes
pub mod Keeping
