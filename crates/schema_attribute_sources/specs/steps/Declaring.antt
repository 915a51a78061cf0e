-- The entity that declares an attribute, among some entities.
use Rattle.std.specs.Prelude.{◌≡◌, ℕ, Bool, true, false, cond, List, eqb}
use Rattle.graphs.specs.Graphs.{has}
use Rattle.express_syntax.specs.Schemas.{Schema}
use Rattle.schema_semantics.specs.Names.{Name}
use Rattle.schema_explicit_attributes.specs.declared.own_attributes.Meant.TheVariants.{All}
use Rattle.schema_explicit_attributes.specs.steps.Owned.{declares_at}
use Rattle.schema_attribute_sources.specs.declared.declaring_entity.Declarer.{Declarer}
use Rattle.schema_attribute_sources.specs.declared.declaring_entity.Declarer.TheVariants.{Nobody, One, Several}

-- Whether i isn't `first` and declares an attribute a.
abbrev pub declares_beside : Schema → Name → ℕ → ℕ → Bool
declares_beside s a first i = cond (eqb i first) false (declares_at s All a i)

-- Whether no, one or several numbers of a list pass the test.
abbrev pub AreDeclaring : (ℕ → Bool) → List ℕ → Declarer → Type 0
AreDeclaring test xs Nobody = (q : ℕ) → has xs q ≡ true → test q ≡ false
AreDeclaring test xs (One p) =
    (has xs p ≡ true) × (test p ≡ true) × ((q : ℕ) → has xs q ≡ true → test q ≡ true → q ≡ p)
AreDeclaring test xs Several =
    (p : ℕ) × (q : ℕ) × (has xs p ≡ true) × (test p ≡ true) × (has xs q ≡ true) × (test q ≡ true) × (p ≡ q → ⊥)
