-- What the code computes; no promise stands here. The first free row of each shape, by its
-- position.
use Rattle.std.specs.Prelude.{◌≡◌, ◌<◌, ℕ, Bool, true, false, cond, List, length, take, slice_get, unwrap_or, Option, Some}
use Rattle.std.specs.Hash as fed
use Rattle.std.specs.List.{position_from}
use Rattle.std.specs.Map.{lookup}
use Rattle.std.specs.declared.hash.FoldHasher.{FoldHasher}
use Rattle.step_values.specs.NormalForms.{AreNormal}
use Rattle.step_values.specs.contracts.normal.NormalHash.TheImpl.{ghosts as hashes}
use Rattle.step_values.specs.declared.normal.Normal.{Normal}
use Rattle.step_values.specs.LabelledValues.{each_labelled}
use Rattle.step_values.specs.Values.{Values}
use Rattle.value_equality.specs.Rows.{Row}
use Rattle.row_signatures.specs.steps.ComputedLabelling.{of_one_class}
use Rattle.row_signatures.specs.steps.ComputedFlat.{IsHash, bagless_each, hash_told, shape_test}
use Rattle.row_signatures.specs.contracts.shapes.ShapePartialEq.TheImpl.{ghosts}
use Rattle.row_signatures.specs.declared.shapes.Shape.{Shape}
use Rattle.row_signatures.specs.declared.shapes.Shape.TheVariants.{Flat, Forms}

-- the result of a hasher that is fed normal forms
abbrev pub forms_hash : FoldHasher → List Normal → ℕ
forms_hash start ns = hash_told start (fed.slice hashes.hash_input ns)

-- The shape has these values, or their normal forms if they contain a bag, and their hash by a
-- hasher with this initial state.
abbrev pub IsShapeOf : FoldHasher → Values → Shape → Type 0
IsShapeOf start vs (Flat f) = (bagless_each vs ≡ true) × (f.values ≡ vs) × IsHash start vs f.hash
IsShapeOf start vs (Forms f) =
    (bagless_each vs ≡ false) × AreNormal (each_labelled of_one_class vs) f.forms.items
    × (f.hash ≡ forms_hash start f.forms.items)

-- the derived equality
abbrev pub same_shape : Shape → Shape → Bool
same_shape s t = ghosts.eq s t

-- whether the row is free and its values have the shape of vs
abbrev pub is_free_like : (ℕ → Bool) → Values → Row → Bool
is_free_like pinned vs r = cond (pinned r.name) false (shape_test vs r.values)

-- the position of the first of these rows that is free and has the shape of vs, if any
abbrev pub first_place : (ℕ → Bool) → List Row → Values → Option ℕ
first_place pinned rows vs = position_from (is_free_like pinned vs) 0 rows

-- each shape is listed with the position of the first of these rows that is free and has it, if any
abbrev pub AreFirsts : FoldHasher → (ℕ → Bool) → List Row → List (Shape × ℕ) → Type 0
AreFirsts start pinned rows es =
    (vs : Values) (s : Shape) → IsShapeOf start vs s → lookup (same_shape s) es ≡ first_place pinned rows vs

-- The number of a free row is the one listed with its shape, otherwise its position, which is then
-- added to the list.
pub record IsFreeNumber (start : FoldHasher) (r : Row) (place number : ℕ) (old new : List (Shape × ℕ)) : Type 0 where
  pub shape : Shape
  pub shape_is : IsShapeOf start r.values shape
  pub number_is : number ≡ unwrap_or (lookup (same_shape shape) old) place
  pub noted : (s : Shape) → lookup (same_shape s) new
      ≡ cond (same_shape shape s) (Some number) (lookup (same_shape s) old)

-- the number of a row, free or pinned; a pinned row has its own position
pub record IsShapeNumber (start : FoldHasher) (is_pinned : Bool) (r : Row) (place number : ℕ)
    (old new : List (Shape × ℕ)) : Type 0 where
  pub of_pinned : is_pinned ≡ true → (number ≡ place) × (new ≡ old)
  pub of_free : is_pinned ≡ false → IsFreeNumber start r place number old new

-- the numbers of the first n rows
pub record AreShapeNumbers (start : FoldHasher) (pinned : ℕ → Bool) (rows : List Row) (numbers : List ℕ)
    (es : List (Shape × ℕ)) (n : ℕ) : Type 0 where
  pub each : length numbers ≡ n
  pub firsts : AreFirsts start pinned (take n rows) es
  pub of_pinned : (i : ℕ) (r : Row) → i < n → slice_get rows i ≡ Some r → pinned r.name ≡ true
      → slice_get numbers i ≡ Some i
  pub of_free : (i : ℕ) (r : Row) → i < n → slice_get rows i ≡ Some r → pinned r.name ≡ false
      → slice_get numbers i ≡ first_place pinned (take n rows) r.values
