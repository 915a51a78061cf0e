mod SmallSchemas
mod Samples
mod Examples
mod Carrying
mod WholeNumbers
mod Linking
mod Returning
mod ValueForms
mod Alike
mod Declared
mod Instances
mod Targets
mod Attributes
mod Populations
mod Leading
mod PinnedElements
mod Records
mod Spelling
mod Rewriting
mod Written
pub mod Standing
pub mod Pinning
pub mod There
pub mod Apart
pub mod Counting
pub mod Holding
pub mod Keys
pub mod Decided
pub mod Deciding
pub mod GeoRules
pub mod RuleSamples
pub mod RuleOneness
pub mod Checked
mod TwoMeanings
mod RuleExamples
pub mod Comparisons
pub mod Elements
pub mod ExpressionForms
pub mod Led
pub mod Settings
pub mod Selves
pub mod Outcomes
pub mod MeaningOneness
pub mod Counted
pub mod Referring
pub mod Keyed
pub mod Bounded
pub mod PinnedSides
pub mod Unbroken
pub mod Closed
pub mod Once
pub mod Saying
pub mod Lesser
pub mod Indices
mod MeaningSamples
mod GeoFacts
mod MeaningExamples
mod TypedExamples
pub mod Ordered
pub mod RowOneness
pub mod Rowed
pub mod FileNames
mod FileRows
