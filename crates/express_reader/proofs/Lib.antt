mod TypeSteps
mod SchemaSteps
