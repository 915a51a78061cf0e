mod Asking
mod Leaves
mod Built
mod Runs
mod ParamKeywords
mod Spellings
pub mod Weights
pub mod Parts
pub mod Joined
pub mod Taking
pub mod Looking
pub mod ParamSteps
pub mod Pushing
pub mod RecordKeywords
pub mod RecordSteps
pub mod Recording
pub mod RowSteps
pub mod Instancing
pub mod Naming
