-- The result of checking the requirements of a part of a schema.
use Rattle.std.specs.Prelude.{◌≡◌, Bool, true, false, List, MatchResult, Result}
use Rattle.step_literals.specs.declared.literal.Word.{Word}
use Rattle.express_syntax.specs.ExpressionViews.{capitals}
use Rattle.express_syntax.specs.Profile.{Every}
use Rattle.express_syntax.specs.Schemas.{Schema, Declaration, type, entity, skipped}
use Rattle.schema_semantics.specs.Names.{Name, IsFirst}
use Rattle.schema_semantics.specs.Faults.{Demand, IsMet, asked}

-- The first requirement that isn't met is on the name n.
abbrev pub IsFirstUnmet : Schema → List Demand → Name → Type 0
IsFirstUnmet s ds n = (d : Demand) × IsFirst (λ (d : Demand). IsMet s d → ⊥) ds d × (asked d ≡ n)

-- All requirements are met, or the error is the name of the first that isn't.
abbrev pub Checks : Schema → List Demand → Result (Unit {0}) Word → Type 0
Checks s ds result = MatchResult result (λ _. Every (IsMet s) ds) (λ w. IsFirstUnmet s ds (capitals w))

abbrev pub is_entity : Declaration → Bool
is_entity (type t) = false
is_entity (entity e) = true
is_entity (skipped p) = false
