-- Numbers among numbers, and names among names.
use Rattle.std.proofs.Common.{◌≡◌, ◌≤◌, ◌<◌, ℕ, get_or, zero, suc, List, [], ◌∷◌, Some, None, Vec, map, length, slice_get, refl, sym, ◌∙◌, ap, eqb-true, eq-eqb, arith}
use Rattle.std.specs.Prelude.{◌==◌, ◌||◌, bytes_eq}
use Rattle.std.specs.List.{list_any}
use Rattle.std.proofs.lemmas.Slice.Eq.{bytes_eq-Decides}
use Rattle.graphs.specs.Graphs.{graph_of}
use Rattle.express_syntax.specs.Schemas.{Schema}
use Rattle.express_syntax.specs.Profile.{Every}
use Rattle.schema_names.specs.Numbers.{number_of, HasNumber}
use Rattle.schema_underlying_types.specs.BaseViews.{name_at, or_empty}
use Rattle.step_values.proofs.Deciding.{same_bool}
use Rattle.parameter_fits.specs.steps.Led.{AreNumbered}

-- numbers are one where their names are
one_number : (s : Schema) (i j : ℕ) → HasNumber s (name_at s i) i → HasNumber s (name_at s j) j
    → name_at s i ≡ name_at s j → i ≡ j
one_number s i j p q e = let same : Some i ≡ Some j = sym p ∙ ap (number_of s) e ∙ q in cc

told_by_number : (s : Schema) (i j : ℕ) → HasNumber s (name_at s i) i → HasNumber s (name_at s j) j
    → (j == i) ≡ bytes_eq (name_at s i) (name_at s j)
told_by_number s i j p q =
    same_bool _ _ (λ e. (bytes_eq-Decides (name_at s i) (name_at s j)).1 (ap (name_at s) (sym (eqb-true j i e))))
    (λ e. eq-eqb j i (sym (one_number s i j p q ((bytes_eq-Decides (name_at s i) (name_at s j)).0 e))))

pub among_numbers : (s : Schema) (i : ℕ) → HasNumber s (name_at s i) i → (js : List ℕ) → AreNumbered s js
    → list_any (λ j. j == i) js ≡ list_any (bytes_eq (name_at s i)) (map (name_at s) js)
among_numbers s i p [] q = refl
among_numbers s i p (j ∷ js) q =
    ap (λ b. b || list_any (λ k. k == i) js) (told_by_number s i j p q.0)
    ∙ ap (λ b. bytes_eq (name_at s i) (name_at s j) || b) (among_numbers s i p js q.1)

-- what holds of each row holds of the one at a place, if it holds of none
pub each_row : {Z : Type 0} (P : List ℕ → Type 0) → P [] → (rows : List (Vec ℕ Z)) → Every P (graph_of rows) → (i : ℕ)
    → P (or_empty (slice_get (graph_of rows) i))
each_row P p [] e i = p
each_row P p (row ∷ rows) e zero = e.0
each_row P p (row ∷ rows) e (suc i) = each_row P p rows e.1 i

pub row_over : {Z : Type 0} (rows : List (Vec ℕ Z)) (i : ℕ) → length rows ≤ i → slice_get (graph_of rows) i ≡ None
row_over [] i h = refl
row_over (row ∷ rows) zero h = absurd (omega (arith, h))
row_over (row ∷ rows) (suc i) h = row_over rows i (omega (arith, h))

pub row_at : {Z : Type 0} (rows : List (Vec ℕ Z)) (i : ℕ) (row : Vec ℕ Z) → i < length rows → row ≡ get_or rows i row
    → slice_get (graph_of rows) i ≡ Some row.items
row_at [] i row h e = absurd (omega (arith, h))
row_at (r ∷ rows) zero row h e = ap (λ x. Some x.items) (sym e)
row_at (r ∷ rows) (suc i) row h e = row_at rows i row (omega (arith, h)) e
