-- What the code computes; no promise stands here. Whether a row agrees with the first of its class.
use Rattle.std.specs.Prelude.{◌≡◌, ◌≢◌, ℕ, Bool, false, cond, List, Some, is_some, map}
use Rattle.step_values.specs.declared.labels.Label.{Label}
use Rattle.step_values.specs.declared.labels.Label.TheVariants.{Name, Class}
use Rattle.step_values.specs.Labels.{Labelling, AgreeEachBy}
use Rattle.value_equality.specs.Rows.{Row, row_kind, row_at}
use Rattle.certificate_checks.specs.steps.Places.{by_place}

-- The label of a name: the class of a free instance, which `cs` has at its position, otherwise the
-- name itself.
abbrev pub label_by : (ℕ → Bool) → List Row → List ℕ → ℕ → Label
label_by pinned P cs y = cond (pinned y) (Name y) (cond (is_some (row_at P y)) (Class (by_place P cs y)) (Name y))

abbrev pub labels_by : (ℕ → Bool) → List Row → List ℕ → Labelling
labels_by pinned P cs = record { outside = label_by pinned P cs; inside = λ y. y }

-- The class of each member.
abbrev pub classes_of : List (ℕ × ℕ) → List ℕ
classes_of ms = map (λ (m : ℕ × ℕ). m.1) ms

-- The row `r` and the row named `other` are free and of the same kind, and their values agree.
pub record AgreesWith (P : List Row) (pinned : ℕ → Bool) (f : Labelling) (r : Row) (other : ℕ) : Type 0 where
  pub first : Row
  pub first_is : row_at P other ≡ Some first
  pub free : pinned r.name ≡ false
  pub first_free : pinned other ≡ false
  pub same_kind : row_kind r ≡ row_kind first
  pub values_agree : AgreeEachBy f f r.values first.values

-- The row agrees with the first of its class, if that is another row.
abbrev pub AgreesWithFirst : List Row → (ℕ → Bool) → Labelling → (ℕ → ℕ) → Row → Type 0
AgreesWithFirst P pinned f h r = h r.name ≢ r.name → AgreesWith P pinned f r (h r.name)
