-- What the code computes; no promise stands here. The conditions of an image, over the rows.
use Rattle.std.specs.Prelude.{◌≡◌, ℕ, nat_eq, ◌==◌, ◌&&◌, Bool, true, false, cond, List, [], ◌∷◌, Option, Some, None}
use Rattle.std.specs.List.{list_any}
use Rattle.std.specs.BTreeMap.{BTreeMap}
use Rattle.std.specs.BTreeSet.{BTreeSet}
use Rattle.std.specs.HashMap.{HashMap, get}
use Rattle.step_values.specs.References.{renamed_each}
use Rattle.value_equality.specs.Rows.{Row, row_kind, row_at, IsName, RowsAgree, renamed_row}
use Rattle.step_values.specs.AgreementTests.{same_each_test}
use Rattle.value_equality.specs.steps.ComputedKinds.{kind_test}
use Rattle.step_values.specs.Maps.{led_by}
use Rattle.value_equality.specs.Maps.{is_pinned}

-- `h` maps each row of `P` to one of `Q` that agrees with it.
abbrev pub Lands : List Row → List Row → (ℕ → ℕ) → Type 0
Lands P Q h = (x : ℕ) (p : Row) → row_at P x ≡ Some p → (q : Row) × (row_at Q (h x) ≡ Some q)
    × RowsAgree (renamed_row h p) q

abbrev pub IsOnto : List Row → List Row → (ℕ → ℕ) → Type 0
IsOnto P Q h = (y : ℕ) → IsName Q y → (x : ℕ) × IsName P x × (h x ≡ y)

abbrev pub LeavesAlone : List Row → (ℕ → ℕ) → (ℕ → Bool) → Type 0
LeavesAlone P h pinned = (x z : ℕ) → IsName P x → IsName P z → pinned z ≡ true → h x ≡ h z → x ≡ z

-- The row, with its references mapped, agrees with the row to which it is mapped.
abbrev pub row_lands : (ℕ → ℕ) → Row → Option Row → Bool
row_lands h p None = false
row_lands h p (Some q) = kind_test (row_kind p) (row_kind q) && same_each_test (renamed_each h p.values) q.values

-- The row, with its references mapped, agrees with the row of `Q` to which the map maps it.
abbrev pub lands_by : BTreeMap ℕ ℕ → List Row → Row → Bool
lands_by m Q = λ p. row_lands (led_by m) p (row_at Q (led_by m p.name))

-- The map maps one of the rows to `y`.
abbrev pub is_reached : BTreeMap ℕ ℕ → List Row → ℕ → Bool
is_reached m P y = list_any (λ p. led_by m p.name == y) P

-- The last pinned row that `h` maps to `y`, if any, otherwise `known`.
abbrev pub source : (ℕ → ℕ) → (ℕ → Bool) → List Row → Option ℕ → ℕ → Option ℕ
source h pinned [] known y = known
source h pinned (r ∷ rows) known y = source h pinned rows (cond (pinned r.name && (h r.name == y)) (Some r.name) known)
    y

-- The last pinned row that the map maps to `y`, if any.
abbrev pub source_by : BTreeMap ℕ ℕ → BTreeSet ℕ → List Row → ℕ → Option ℕ
source_by m pinned P y = source (led_by m) (is_pinned pinned) P None y

-- The source, if any, is `x`.
abbrev pub is_source : Option ℕ → ℕ → Bool
is_source None x = true
is_source (Some z) x = z == x

-- The source of the name to which the map maps the row is the row itself, if there is a source.
abbrev pub is_source_by : {S : Type 0} → HashMap ℕ ℕ S → BTreeMap ℕ ℕ → Row → Bool
is_source_by sources m = λ p. is_source (get nat_eq sources (led_by m p.name)) p.name
