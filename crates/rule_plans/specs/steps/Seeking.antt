-- What is searched for in values, and what is found there.
use Rattle.std.specs.Prelude.{◌≡◌, ⊤, ℕ, Bool, true, false, ◌||◌, cond, List, [], ◌∷◌, ◌++◌, map, Option, None, Some}
use Rattle.graphs.specs.Graphs.{has}
use Rattle.express_syntax.specs.Schemas.{Schema}
use Rattle.schema_semantics.specs.Names.{Name}
use Rattle.schema_semantics.specs.Faults.{IsResolved}
use Rattle.schema_names.specs.Numbers.{HasNumber}
use Rattle.schema_names.specs.Schemas.{the_schema}
use Rattle.schema_data_types.specs.NumberedTypes.{form_in, all_data_types}
use Rattle.schema_underlying_types.specs.BaseViews.{name_at}
use Rattle.express_logic.specs.Data.{Datum}
use Rattle.rule_values.specs.Parts.{element_datum}
use Rattle.rule_plans.specs.declared.value_search.Seeker.{Seeker}
use Rattle.rule_plans.specs.declared.found_values.Typed.{Typed}
use Rattle.rule_plans.specs.declared.found_values.Found.{Found}
use Rattle.rule_plans.specs.steps.Coded.{is_wanted, Told}

-- The names are resolved, and the data types are those of the schema.
pub record IsSeeker (x : Seeker) : Type 0 where
  pub resolved : IsResolved (the_schema x.names.now)
  pub forms : x.forms.now ≡ map (form_in (the_schema x.names.now)) (all_data_types (the_schema x.names.now))

-- the number, if there is one, is that of the declaration with the name at it
abbrev pub IsDeclared : Schema → Option ℕ → Type 0
IsDeclared s None = ⊤
IsDeclared s (Some i) = HasNumber s (name_at s i) i

-- a test of the numbers of declarations agrees with a test of their names
abbrev pub Agrees : Schema → (ℕ → Bool) → (Name → Bool) → Type 0
Agrees s p test = (i : ℕ) → HasNumber s (name_at s i) i → p i ≡ test (name_at s i)

-- each type that passes the test is wanted
abbrev pub Covers : Schema → List Bool → (Name → Bool) → Type 0
Covers s wanted test =
    (i : ℕ) → HasNumber s (name_at s i) i → test (name_at s i) ≡ true → is_wanted wanted i ≡ true

-- exactly the types that pass the test are wanted
abbrev pub Tells : Schema → List Bool → (Name → Bool) → Type 0
Tells s wanted test = Agrees s (is_wanted wanted) test

-- the values whose types have numbers that pass a test
abbrev pub those : (ℕ → Bool) → List Told → List Datum
those p [] = []
those p (t ∷ ts) = cond (p t.0) (t.1 ∷ those p ts) (those p ts)

abbrev pub worth : Told → Datum
worth t = t.1

abbrev pub number : Told → ℕ
number t = t.0

-- a value with the number of its type, as the code represents it
abbrev pub told_in : Typed → Told
told_in v = (v.number, element_datum v.element)

-- The values are found in addition: the values themselves if they are kept, otherwise the numbers of their types.
pub record Adds (ts : List Told) (old new : Found) : Type 0 where
  pub keeps : new.keeps ≡ old.keeps
  pub values : old.keeps ≡ true → map told_in new.values.items ≡ map told_in old.values.items ++ ts
  pub types : old.keeps ≡ false
      → (i : ℕ) → has new.types.items i ≡ (has old.types.items i || has (map number ts) i)
