pub mod Below
pub mod Choosing
pub mod Splitting
pub mod Sets
pub mod Keys
pub mod Order
pub mod Starting
pub mod Members
