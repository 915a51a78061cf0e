-- How names are pinned one after the other.
use Rattle.std.specs.Prelude.{ℕ, Bool, IsTrue, ◌⊎◌, ◌↔◌, Vec}
use Rattle.std.specs.BTreeMap.{is_at}
use Rattle.std.specs.List.{list_any}
use Rattle.std.specs.Ordering.{nat_cmp}

-- `y` is one of these names.
abbrev pub has_name : {Z : Type 0} → Vec ℕ Z → ℕ → Bool
has_name names y = list_any (is_at (nat_cmp y)) names.items

-- The names in `new` are those in `old`, and those for which `P` holds.
abbrev pub Pins : {Z : Type 0} → (ℕ → Type 0) → Vec ℕ Z → Vec ℕ Z → Type 0
Pins P old new = (y : ℕ) → IsTrue (has_name new y) ↔ (IsTrue (has_name old y) ⊎ P y)

-- The names in `new` or left are those in `old`, and those for which `P` holds.
abbrev pub PinsUpTo : {Z : Type 0} → (ℕ → Type 0) → (ℕ → Type 0) → Vec ℕ Z → Vec ℕ Z → Type 0
PinsUpTo P left old new =
    (y : ℕ) → (IsTrue (has_name new y) ⊎ left y) ↔ (IsTrue (has_name old y) ⊎ P y)
