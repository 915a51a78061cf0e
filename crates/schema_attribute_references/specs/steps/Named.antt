-- The entities whose attributes a name refers to, by number.
use Rattle.std.specs.Prelude.{◌≡◌, ℕ, Bool, false, not, eqb, List, [], ◌∷◌}
use Rattle.std.specs.List.{list_all}
use Rattle.express_syntax.specs.Schemas.{Schema}
use Rattle.schema_semantics.specs.Names.{Name, Among, Has}
use Rattle.schema_names.specs.Numbers.{HasNumber}
use Rattle.schema_explicit_attributes.specs.declared.own_attributes.Meant.TheVariants.{Explicit}
use Rattle.schema_explicit_attributes.specs.steps.Owned.{declares_at}

-- The list has exactly the numbers of the names for which P holds.
pub record AreNumbersOf (s : Schema) (P : Name → Type 0) (row : List ℕ) : Type 0 where
  pub forth : (i : ℕ) → Among i row → (p : Name) × HasNumber s p i × P p
  pub back : (p : Name) → P p → (i : ℕ) × HasNumber s p i × Among i row

-- The entities that declare an attribute a which e declares or inherits.
abbrev pub AreHolders : Schema → Name → Name → List ℕ → Type 0
AreHolders s e a row = AreNumbersOf s (λ (p : Name). Has s e p a) row

-- Whether all numbers are equal, and there is at least one.
abbrev pub is_one : List ℕ → Bool
is_one [] = false
is_one (x ∷ xs) = list_all (λ y. eqb y x) (x ∷ xs)

-- Whether the declaration i declares no explicit attribute a.
abbrev pub is_other_at : Schema → Name → ℕ → Bool
is_other_at s a i = not (declares_at s Explicit a i)
