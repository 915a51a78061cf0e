-- The classes of instances, and the instances that have another of their class beside them.
use Rattle.std.specs.Prelude.{◌≡◌, ◌≢◌, ℕ, ◌==◌, Bool, cond, List, [], ◌∷◌, Option, None, Some, ◌⊎◌, slice_get}
use Rattle.std.specs.Option.{option_map}
use Rattle.std.specs.Ordering.{nat_cmp}
use Rattle.std.specs.BTreeMap.{BTreeMap, get}
use Rattle.schema_semantics.specs.Names.{Among}
use Rattle.value_equality.specs.TableViews.{table_of}
use Rattle.value_equality.specs.Tables.{ancestor_of, same_class}
use Rattle.population_rows.specs.Index.{found}
use Rattle.population_pins.specs.declared.classes.Classes.{Classes}

-- The class of the member at this position, if any.
abbrev pub class_there : List (ℕ × ℕ) → Option ℕ → Option ℕ
class_there ms None = None
class_there ms (Some i) = option_map (λ m. m.1) (slice_get ms i)

-- The class of a name, if any.
abbrev pub class_of : Classes → ℕ → Option ℕ
class_of c y = ancestor_of (table_of c.table.now).classes c.table.now.rounds
    (class_there (table_of c.table.now).members (found c.places y))

-- Two names are of the same class.
abbrev pub share_class : (ℕ → Option ℕ) → ℕ → ℕ → Bool
share_class of y z = same_class (of y) (of z)

abbrev pub with_name : ℕ → Option ℕ → Option (ℕ × ℕ)
with_name y None = None
with_name y (Some c) = Some (c, y)

abbrev pub with_member : Option (ℕ × ℕ) → List (ℕ × ℕ) → List (ℕ × ℕ)
with_member None ms = ms
with_member (Some m) ms = m ∷ ms

-- The names that have a class, each with its class.
abbrev pub members_of : (ℕ → Option ℕ) → List ℕ → List (ℕ × ℕ)
members_of of [] = []
members_of of (y ∷ ys) = with_member (with_name y (of y)) (members_of of ys)

-- The first name of a class, if any.
abbrev pub first_of : List (ℕ × ℕ) → ℕ → Option ℕ
first_of [] c = None
first_of (m ∷ ms) c = cond (m.0 == c) (Some m.1) (first_of ms c)

abbrev pub AreFirsts : BTreeMap ℕ ℕ → List (ℕ × ℕ) → Type 0
AreFirsts firsts ms = (c : ℕ) → get nat_cmp firsts c ≡ first_of ms c

-- `ms` has `y` and another name of its class.
abbrev pub HasClassmate : List (ℕ × ℕ) → ℕ → Type 0
HasClassmate ms y = (c : ℕ) × (z : ℕ) × Among (c, y) ms × Among (c, z) ms × (z ≢ y)

-- `y` is either of two different instances: the first of a class, and the one with this name.
abbrev pub ComesBeside : Option ℕ → ℕ → ℕ → Type 0
ComesBeside None name y = ⊥
ComesBeside (Some first) name y = (first ≢ name) × ((y ≡ first) ⊎ (y ≡ name))

-- `y` is the instance `m` or the first of its class in `before`, if these are two different
-- instances.
abbrev pub ComesAfter : List (ℕ × ℕ) → Option (ℕ × ℕ) → ℕ → Type 0
ComesAfter before None y = ⊥
ComesAfter before (Some m) y = ComesBeside (first_of before m.0) m.1 y
