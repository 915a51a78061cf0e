-- Judgements of derived attributes, one after the other.
use Rattle.std.specs.Prelude.{◌≡◌, List, [], ◌∷◌, ◌++◌}
use Rattle.express_syntax.specs.Schemas.{Schema, Derived}
use Rattle.schema_semantics.specs.Attributes.{Derivation, IsDerivation}
use Rattle.schema_semantics.specs.Ranks.{Self}
use Rattle.schema_unchecked.specs.declared.judgement.Judgement.{Judgement}
use Rattle.schema_unchecked.specs.steps.Judging.{IsJudged}

-- j is the judgement of the derived attribute d.
abbrev pub IsJudgedAt : Schema → Derivation → Judgement → Type 0
IsJudgedAt s d j = (x : Derived) → IsDerivation s d x → IsJudged s (Self d.0) x.body j

-- The judgements are those of the derived attributes, in turn.
abbrev pub AreJudgedInTurn : Schema → List Derivation → List Judgement → Type 0
AreJudgedInTurn s [] [] = Unit {0}
AreJudgedInTurn s [] (j ∷ js) = ⊥
AreJudgedInTurn s (d ∷ ds) [] = ⊥
AreJudgedInTurn s (d ∷ ds) (j ∷ js) = IsJudgedAt s d j × AreJudgedInTurn s ds js

-- The list is extended by the judgements of the derived attributes.
abbrev pub AddsJudged : Schema → List Judgement → List Derivation → List Judgement → Type 0
AddsJudged s old ds new = (more : List Judgement) × (new ≡ old ++ more) × AreJudgedInTurn s ds more
