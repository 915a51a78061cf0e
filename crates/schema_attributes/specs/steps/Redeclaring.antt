-- The first data type of an attribute, by number (ISO 10303-11, 9.2.3.4).
use Rattle.std.specs.Prelude.{◌≡◌, ℕ, Option, Some, MatchOption, slice_get}
use Rattle.express_syntax.specs.Schemas.{Schema, Attribute, DataType}
use Rattle.schema_semantics.specs.Names.{Name, IsEntity}
use Rattle.schema_semantics.specs.Attributes.{IsFirstType, IsRedeclaration}
use Rattle.schema_names.specs.Numbers.{HasNumber}
use Rattle.schema_data_types.specs.NumberedTypes.{all_data_types}

-- The number of the only data type with which p declares its attribute a, if it declares it.
abbrev pub IsFirstTypeAt : Schema → Name → Name → Option ℕ → Type 0
IsFirstTypeAt s p a o =
    MatchOption o ((k : DataType) → IsFirstType s p a k → ⊥)
    (λ t. (k : DataType) × (slice_get (all_data_types s) t ≡ Some k) × IsFirstType s p a k
    × ((l : DataType) → IsFirstType s p a l → l ≡ k))

-- The number of the entity that declares the attribute which x redeclares, if any.
abbrev pub IsRedeclaredAt : Schema → Attribute → Option ℕ → Type 0
IsRedeclaredAt s x o =
    MatchOption o ((p : Name) (a : Name) → IsRedeclaration s x p a → ⊥)
    (λ i. (p : Name) × (a : Name) × IsEntity s p × HasNumber s p i × IsRedeclaration s x p a
    × ((q : Name) (b : Name) → IsRedeclaration s x q b → (q ≡ p) × (b ≡ a)))
