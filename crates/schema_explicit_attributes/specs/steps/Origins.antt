-- Entities by number.
use Rattle.std.specs.Prelude.{ℕ, Option, MatchOption}
use Rattle.express_syntax.specs.Schemas.{Schema}
use Rattle.schema_semantics.specs.Names.{Name}
use Rattle.schema_names.specs.Numbers.{HasNumber}

-- The number of a name for which P holds, if P holds for a name.
abbrev pub IsNumberOf : Schema → (Name → Type 0) → Option ℕ → Type 0
IsNumberOf s P o = MatchOption o ((p : Name) → P p → ⊥) (λ j. (p : Name) × HasNumber s p j × P p)
