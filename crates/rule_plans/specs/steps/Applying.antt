-- Which rules may have a value of SELF at instances of a form.
use Rattle.std.specs.Prelude.{ℕ, suc, Bool, true, cond, List, [], ◌∷◌}
use Rattle.graphs.specs.Graphs.{has}
use Rattle.population_rows.specs.declared.form.Form.{Form}
use Rattle.schema_domain_rules.specs.declared.rule.RuleHolder.{RuleHolder}
use Rattle.schema_domain_rules.specs.declared.rule.RuleHolder.TheVariants as holders
use Rattle.schema_domain_rules.specs.declared.rule.DomainRule.{DomainRule}

abbrev pub may_hold : Form → RuleHolder → Bool
may_hold x (holders.Entity i) = has x.types.items i
may_hold x (holders.Type i) = true

abbrev pub may_apply : Form → DomainRule → Bool
may_apply x r = may_hold x r.holder

-- the numbers of such rules, counted from n
abbrev pub numbers_by : List DomainRule → ℕ → Form → List ℕ
numbers_by [] n x = []
numbers_by (r ∷ rs) n x = cond (may_apply x r) (n ∷ numbers_by rs (suc n) x) (numbers_by rs (suc n) x)
