-- The type that a string names after its schema's name (ISO 10303-11, 15.25).
use Rattle.std.specs.Prelude.{◌≡◌, ℕ, Option, MatchOption}
use Rattle.express_syntax.specs.Schemas.{Schema}
use Rattle.express_syntax.specs.Trees.{Tree}
use Rattle.schema_semantics.specs.Names.{Name}
use Rattle.schema_semantics.specs.Reasons.{SaysName}
use Rattle.schema_names.specs.Numbers.{HasNumber}

-- The number of the only name that a tree spells, if it is that of a type or an entity.
abbrev pub IsSaid : Schema → Tree → Option ℕ → Type 0
IsSaid s x o =
    MatchOption o ((n : Name) (i : ℕ) → SaysName s x n → HasNumber s n i → ⊥)
    (λ i. (n : Name) × SaysName s x n × HasNumber s n i × ((m : Name) → SaysName s x m → m ≡ n))
