-- Derived attributes by number: those that each one uses, those that are set aside, and the ranks
-- of the others (ISO 10303-11, 9.2.1.2).
use Rattle.std.specs.Prelude.{◌≡◌, ℕ, Bool, true, List, Option, Some, None, length, slice_get, ◌↔◌}
use Rattle.graphs.specs.Graphs.{Graph, next}
use Rattle.express_syntax.specs.Schemas.{Schema}
use Rattle.schema_semantics.specs.Names.{Name}
use Rattle.schema_semantics.specs.Attributes.{Derivation}
use Rattle.schema_semantics.specs.Ranks.{Uses, HasOwnReason, IsSetAside, AreAttributeRanks, IsRankAt}
use Rattle.schema_names.specs.Numbers.{HasNumber}
use Rattle.schema_attributes.specs.Derivations.{all_derivations, HasDerivation, HoldsDerivation}

-- The rows have the numbers of the derived attributes that each may use.
pub record AreUses (s : Schema) (rows : Graph) : Type 0 where
  pub same : length rows ≡ length (all_derivations s)
  pub each : (j : ℕ) (d u : Derivation) → HasDerivation s j d → HoldsDerivation s (next rows j) u ↔ Uses s d u

-- The list marks the derived attributes that are faulty by themselves.
pub record AreFaulty (s : Schema) (faulty : List Bool) : Type 0 where
  pub same : length faulty ≡ length (all_derivations s)
  pub each : (j : ℕ) (d : Derivation) → HasDerivation s j d → (slice_get faulty j ≡ Some true) ↔ HasOwnReason s d

-- By number, the ranks of derived attributes; `None` for those that are set aside.
pub record AreRanksOf (s : Schema) (table : List (Option ℕ)) : Type 0 where
  pub same : length table ≡ length (all_derivations s)
  pub aside : (j : ℕ) (d : Derivation) → HasDerivation s j d → (slice_get table j ≡ Some None) ↔ IsSetAside s d
  pub ranks : (rank : Derivation → ℕ) × AreAttributeRanks s rank × ((j r : ℕ) (d : Derivation) → HasDerivation s j d
      → slice_get table j ≡ Some (Some r) → rank d ≡ r)

-- o is the rank of the attribute a in the entity that has the number i.
abbrev pub IsRankOf : Schema → ℕ → Name → Option ℕ → Type 0
IsRankOf s i a o = (e : Name) → HasNumber s e i → IsRankAt s (e, a) o
