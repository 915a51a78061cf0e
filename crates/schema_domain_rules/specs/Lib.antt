pub mod RuleViews
pub mod steps
