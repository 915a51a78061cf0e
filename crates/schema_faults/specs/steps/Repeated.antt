-- The names that a prefix of a schema declares, and the first of them that is repeated.
use Rattle.std.specs.Prelude.{◌≡◌, ℕ, Bool, ◌&&◌, nat_eq, bytes_eq, List, [], ◌++◌, Option, None, Some}
use Rattle.std.specs.List.{list_any}
use Rattle.indexmap.specs.IndexSet.{contains}
use Rattle.step_literals.specs.declared.literal.Word.{Word}
use Rattle.express_syntax.specs.ExpressionViews.{capitals}
use Rattle.schema_semantics.specs.Faults.{Declared, IsFirstAgain}
use Rattle.schema_names.specs.Words.{same_word}
use Rattle.schema_faults.specs.declared.declared_names.Seen.{Seen}

-- Equality of words and of their scopes.
abbrev pub same_entry : ℕ × Word → ℕ × Word → Bool
same_entry p q = nat_eq p.0 q.0 && same_word p.1 q.1

abbrev pub stands_for : ℕ × Word → Declared → Bool
stands_for p d = nat_eq d.0 p.0 && bytes_eq d.1 (capitals p.1)

-- The first name that is declared already, if any.
abbrev pub IsFirstRepeated : List Declared → Option Word → Type 0
IsFirstRepeated xs None = (x : Declared) → IsFirstAgain [] xs x → ⊥
IsFirstRepeated xs (Some w) = (scope : ℕ) × IsFirstAgain [] xs (scope, capitals w)

-- `seen` has these names, added in order.
pub record IsSeen (seen : Seen) (xs : List Declared) : Type 0 where
  pub has : (p : ℕ × Word) → contains same_entry seen.names p ≡ list_any (stands_for p) xs
  pub first : IsFirstRepeated xs seen.duplicate

-- The names are added, in order.
abbrev pub Sees : Seen → Seen → List Declared → Type 0
Sees old new ys = (xs : List Declared) → IsSeen old xs → IsSeen new (xs ++ ys)
