pub mod OpenRunLemmas
pub mod RunSteps
pub mod NameSteps
pub mod SkippedSteps
