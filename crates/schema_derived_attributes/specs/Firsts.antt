-- The numbers of the first derived attributes of declarations (ISO 10303-11, 9.2.1.2).
use Rattle.std.specs.Prelude.{◌≡◌, ℕ, ◌<◌, List, length, take, get_or, flat_map}
use Rattle.express_syntax.specs.Schemas.{Schema, Declaration}
use Rattle.schema_attributes.specs.Derivations.{derivations_in}

-- The count of derived attributes before the declaration i.
abbrev pub first_of : List Declaration → ℕ → ℕ
first_of ds i = length (flat_map derivations_in (take i ds))

-- By declaration, the count of derived attributes before it.
pub record AreFirsts (s : Schema) (firsts : List ℕ) : Type 0 where
  pub same : length firsts ≡ length s.declarations
  pub each : (i : ℕ) → i < length s.declarations → get_or firsts i 0 ≡ first_of s.declarations i
