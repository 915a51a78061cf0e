-- Declarations of explicit attributes, by number.
use Rattle.std.specs.Prelude.{◌≡◌, ℕ, Bool, ◌==◌, List, map}
use Rattle.population_rows.specs.declared.index.RowIndex.{RowIndex}
use Rattle.population_rows.specs.Index.{found, place_of}
use Rattle.schema_redeclarations.specs.declared.uses.AttributeUse.{AttributeUse}

-- the declaration is of the explicit attribute numbered q
abbrev pub is_of : ℕ → AttributeUse → Bool
is_of q u = u.place == q

-- the index maps the number of an explicit attribute to the position of its first declaration among us
abbrev pub AreFirst : List AttributeUse → RowIndex → Type 0
AreFirst us t = (q : ℕ) → found t q ≡ place_of (map (λ (u : AttributeUse). u.place) us) q
