-- The lowest of the entities that pass a test; r says whether one is, or is a subtype of, another.
use Rattle.std.specs.Prelude.{ℕ, Bool, true, cond, List, [], ◌∷◌, Option, None, Some}
use Rattle.graphs.specs.Graphs.{Graph}
use Rattle.schema_explicit_attributes.specs.Supertypes.{is_or_leads}

abbrev pub leads : Graph → ℕ → ℕ → Bool
leads above i j = is_or_leads above (Some i) j

abbrev pub lower : (ℕ → ℕ → Bool) → Option ℕ → ℕ → Option ℕ
lower r None i = Some i
lower r (Some j) i = cond (r i j) (Some i) (Some j)

module _ (test : ℕ → Bool) (r : ℕ → ℕ → Bool) where
  abbrev pub with_type : Option ℕ → ℕ → Option ℕ
  with_type o i = cond (test i) (lower r o i) o

  abbrev pub lowest_from : Option ℕ → List ℕ → Option ℕ
  lowest_from o [] = o
  lowest_from o (i ∷ is) = lowest_from (with_type o i) is

  abbrev pub is_below : ℕ → ℕ → Bool
  is_below e i = cond (test i) (r e i) true
