-- The derived attributes of a schema by number (ISO 10303-11, 9.2.1.2).
use Rattle.std.specs.Prelude.{◌≡◌, ℕ, ◌+◌, List, [], ◌∷◌, Some, flat_map, slice_get}
use Rattle.express_syntax.specs.Schemas.{Schema, Declaration, type, entity, skipped, Derived}
use Rattle.schema_semantics.specs.Names.{Name, OneOf, listed}
use Rattle.schema_semantics.specs.Attributes.{Derivation}

-- The derived attributes of e, from the n-th of its DERIVE clause on.
abbrev pub derivations_from : Name → ℕ → List Derived → List Derivation
derivations_from e n [] = []
derivations_from e n (d ∷ ds) = (e, n) ∷ derivations_from e (n + 1) ds

abbrev pub derivations_in : Declaration → List Derivation
derivations_in (type t) = []
derivations_in (entity e) = derivations_from e.name 0 (listed e.derived)
derivations_in (skipped p) = []

-- The derived attributes of a schema, in the order of the text.
abbrev pub all_derivations : Schema → List Derivation
all_derivations s = flat_map derivations_in s.declarations

-- d has the number j.
abbrev pub HasDerivation : Schema → ℕ → Derivation → Type 0
HasDerivation s j d = slice_get (all_derivations s) j ≡ Some d

-- The number of d is in the list.
abbrev pub HoldsDerivation : Schema → List ℕ → Derivation → Type 0
HoldsDerivation s js d = OneOf (λ (j : ℕ). HasDerivation s j d) js
