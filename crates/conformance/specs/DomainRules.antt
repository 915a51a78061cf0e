-- The domain rules of a schema, those of WHERE, and which of them are checked (ISO 10303-11, 9.1 and 9.2.2.2).
use Rattle.std.specs.Prelude.{◌≡◌, ℕ, ◌+◌, List, [], ◌∷◌, ◌++◌, ◌⊎◌}
use Rattle.express_syntax.specs.Trees.{Tree}
use Rattle.express_syntax.specs.Schemas.{Schema, Declaration, type, entity, skipped, Rule, Body, parsed, named}
use Rattle.schema_semantics.specs.declared.unchecked.Reason.{Reason}
use Rattle.schema_semantics.specs.Names.{Name, listed}
use Rattle.schema_semantics.specs.Ranks.{Self, HasReason}
use Rattle.schema_semantics.specs.Parts.{label_of, TypeRuleHasReason}

-- The declaration that states a domain rule: an entity or a defined type.
pub data Holder : Type 0 where
  of_entity : Name → Holder
  of_type : Name → Holder

abbrev pub holder_name : Holder → Name
holder_name (of_entity n) = n
holder_name (of_type n) = n

-- A domain rule that is checked.
pub record DomainRule : Type 0 where
  pub holder : Holder
  pub label : Name
  pub condition : Tree

-- A domain rule as the schema states it.
pub record DomainStatement : Type 0 where
  pub holder : Holder
  pub label : Name
  pub body : Body

-- The rules of a WHERE clause, numbered from `n`. A rule without a label has the label `?` and its
-- number.
abbrev pub domain_statements_from : Holder → ℕ → List Rule → List DomainStatement
domain_statements_from h n [] = []
domain_statements_from h n (r ∷ rs) =
    record { holder = h; label = label_of n r.label; body = r.body } ∷ domain_statements_from h (n + 1) rs

-- The domain rules of these declarations, in the order of the text.
abbrev pub statements_in : List Declaration → List DomainStatement
statements_in [] = []
statements_in (type t ∷ ds) = domain_statements_from (of_type t.name) 1 (listed t.rules) ++ statements_in ds
statements_in (entity e ∷ ds) = domain_statements_from (of_entity e.name) 1 (listed e.rules) ++ statements_in ds
statements_in (skipped p ∷ ds) = statements_in ds

module _ (s : Schema) where
  -- a reason why a rule isn't checked
  abbrev pub RuleHasReason : Holder → Body → Reason → Type 0
  RuleHasReason (of_entity e) b r = HasReason s (Self e) b r
  RuleHasReason (of_type t) b r = TypeRuleHasReason s (named t) b r

  -- `rules` are the stated rules that have no reason to be left unchecked, in order.
  abbrev pub AreChecked : List DomainStatement → List DomainRule → Type 0
  AreChecked [] rules = rules ≡ []
  AreChecked (x ∷ xs) rules =
      (((r : Reason) → RuleHasReason x.holder x.body r → ⊥)
      × (c : Tree) × (x.body ≡ parsed c) × (more : List DomainRule)
      × (rules ≡ record { holder = x.holder; label = x.label; condition = c } ∷ more) × AreChecked xs more)
      ⊎ (((r : Reason) × RuleHasReason x.holder x.body r) × AreChecked xs rules)

-- the domain rules of a schema that are checked
abbrev pub AreDomainRules : Schema → List DomainRule → Type 0
AreDomainRules s rules = AreChecked s (statements_in s.declarations) rules
