pub mod Uses
pub mod steps
