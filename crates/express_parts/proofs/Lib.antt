mod BoundSteps
mod RuleSteps
mod DataTypeSteps
pub mod DataTypeSources
