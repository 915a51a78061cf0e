pub mod RuleViews
pub mod Findings
pub mod RuleTables
pub mod steps
