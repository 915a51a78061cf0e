-- The attribute to which `\entity.attribute` refers, by number (ISO 10303-11, 12.7.4).
use Rattle.std.specs.Prelude.{◌≡◌, ℕ, true, cond, List, [], ◌∷◌, Option, None, Some, MatchOption, bytes_eq}
use Rattle.graphs.specs.Graphs.{has}
use Rattle.express_syntax.specs.Schemas.{Schema}
use Rattle.schema_semantics.specs.Names.{Name, Among, Has, IsEntity}
use Rattle.schema_names.specs.Numbers.{HasNumber}
use Rattle.schema_underlying_types.specs.BaseViews.{name_at}
use Rattle.conformance.specs.Attributes.{IsGroupMember}
use Rattle.schema_attribute_sources.specs.SourceViews.{types_seen}

-- p is the only entity from which e has an attribute a, and it is among the types.
abbrev pub IsOnly : Schema → List ℕ → Name → Name → Name → Type 0
IsOnly s numbers e a p =
    Among p (types_seen s numbers) × IsEntity s e × Has s e p a × ((q : Name) → Has s e q a → q ≡ p)

abbrev pub IsInherited : Schema → List ℕ → Name → Name → Option ℕ → Type 0
IsInherited s numbers e a o =
    MatchOption o ((p : Name) → IsOnly s numbers e a p → ⊥)
    (λ i. (has numbers i ≡ true) × HasNumber s (name_at s i) i × IsOnly s numbers e a (name_at s i))

-- The first of the types that has the name n, if any.
abbrev pub first_named : Schema → Name → List ℕ → Option ℕ
first_named s n [] = None
first_named s n (i ∷ is) = cond (bytes_eq (name_at s i) n) (Some i) (first_named s n is)

-- o is the type that declares the attribute to which `\e.a` refers, in an instance of the types.
abbrev pub IsMember : Schema → List ℕ → Name → Name → Option ℕ → Type 0
IsMember s numbers e a o =
    MatchOption o ((p : Name) → IsGroupMember s (types_seen s numbers) e a p → ⊥)
    (λ i. (has numbers i ≡ true) × HasNumber s (name_at s i) i
    × IsGroupMember s (types_seen s numbers) e a (name_at s i))
