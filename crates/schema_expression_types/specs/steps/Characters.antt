-- The characters of strings, and the types that they name.
use Rattle.std.specs.Prelude.{◌≡◌, ◌↔◌, ◌<◌, ◌∷◌, ◌++◌, ℕ, List, Option, map, MatchOption}
use Rattle.std.specs.List.{AllByRecursion}
use Rattle.step_literals.specs.declared.literal.items.Item.{Item}
use Rattle.step_literals.specs.declared.literal.items.Item.TheVariants.{Code}
use Rattle.express_syntax.specs.Trees.{Literal}
use Rattle.express_syntax.specs.Schemas.{Schema}
use Rattle.schema_semantics.specs.Names.{Name}
use Rattle.schema_semantics.specs.Reasons.{IsString}
use Rattle.schema_names.specs.Numbers.{HasNumber}

-- Each number fits into 8 bits.
abbrev pub AreBytes : List ℕ → Type 0
AreBytes cs = AllByRecursion (λ c. c < 256) cs

-- The literal is a string of these characters.
abbrev pub AreCharacters : Literal → List Item → Type 0
AreCharacters l items = (cs : List ℕ) → IsString l cs ↔ (items ≡ map Code cs)

-- The number of the declaration whose name follows the schema's name and a dot, if any.
abbrev pub SaysIn : Schema → List ℕ → Option ℕ → Type 0
SaysIn s text o =
    MatchOption o ((n : Name) (i : ℕ) → text ≡ s.name ++ 46 ∷ n → HasNumber s n i → ⊥)
    (λ i. (n : Name) × (text ≡ s.name ++ 46 ∷ n) × HasNumber s n i)
