mod AttributeSteps
mod EntitySteps
mod ClauseSteps
