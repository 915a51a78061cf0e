-- Steps of the search for the first member of each class; no promise stands here.
use Rattle.std.specs.Prelude.{ℕ, suc, cond, List, [], ◌∷◌, Option, None, Some}
use Rattle.value_equality.specs.Tables.{Table, ancestor, class_at, same_class}

-- the class at the last round of a member that has class c in the table
abbrev pub own_class : Table → ℕ → Option ℕ
own_class t c = ancestor t.classes t.rounds (suc c) c

abbrev pub or_name : ℕ → Option ℕ → ℕ
or_name y None = y
or_name y (Some z) = z

-- the class of a name at the last round
abbrev pub class_of : Table → ℕ → Option ℕ
class_of t y = class_at t y t.rounds

-- the first of these names in a class
abbrev pub first_in : Table → List ℕ → ℕ → Option ℕ
first_in t [] c = None
first_in t (y ∷ ys) c = cond (same_class (class_of t y) (Some c)) (Some y) (first_in t ys c)
