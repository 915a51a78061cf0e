-- Tables that have the rules of a schema.
use Rattle.express_syntax.specs.Schemas.{Schema}
use Rattle.conformance.specs.Bases.{Domain, IsDomain}
use Rattle.conformance.specs.Rules.{AreRules}
use Rattle.schema_constraints.specs.declared.tables.RuleTables.{RuleTables}
use Rattle.schema_constraints.specs.RuleViews.{rules_seen, AreNumbered}

-- The table has the rules of the schema that apply to a whole population, and its numbers are those
-- of the schema's entities and explicit attributes.
pub record AreRuleTables (s : Schema) (t : RuleTables) : Type 0 where
  pub rules : (d : Domain) → IsDomain s d → AreRules s d (rules_seen s t)
  pub numbered : AreNumbered s t
