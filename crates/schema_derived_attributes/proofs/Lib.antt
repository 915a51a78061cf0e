pub mod Above
pub mod Aside
pub mod Numbering
pub mod Ranked
pub mod Asking
mod Oneness
mod Joined
mod Made
mod Placed
pub mod Said
