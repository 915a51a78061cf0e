-- Items in turn, and the forms of rows.
use Rattle.std.specs.Prelude.{◌≡◌, ℕ, zero, suc, ◌+◌, ◌<◌, List, [], ◌∷◌, length, drop, Option, None, Some, slice_get, get_or, Result, Ok, Err, OnOk}
use Rattle.std.proofs.Common.{refl, sym, ap, ◌∙◌, arith, add-one}
use Rattle.express_syntax.specs.Schemas.{Schema}
use Rattle.population_rows.specs.declared.form.Form.{Form}
use Rattle.population_rows.specs.declared.rows.Rows.{Rows}
use Rattle.population_rows.specs.steps.Rows.{form_of_number, form_at as form_in_rows}
use Rattle.typed_populations.specs.PopulationTables.{form_among}

pub on-ok : {T E P Q : Type 0} (r : Result T E) → (P → Q) → OnOk r P → OnOk r Q
on-ok (Ok x) f h = f h
on-ok (Err e) f h = h

-- one more item
pub drop-item : {A : Type 0} (xs : List A) (i : ℕ) (x : A) → slice_get xs i ≡ Some x → drop i xs ≡ x ∷ drop (i + 1) xs
drop-item [] i x e = absurd (cc)
drop-item (y ∷ ys) zero x e = let same : y ≡ x = cc in ap (λ z. z ∷ ys) same
drop-item (y ∷ ys) (suc i) x e = rw add-one (rw add-one at (drop-item ys i x e))

pub drop-got : {A : Type 0} (xs : List A) (i : ℕ) (x : A) → i < length xs → x ≡ get_or xs i x
    → drop i xs ≡ x ∷ drop (i + 1) xs
drop-got [] i x lt e = absurd (omega (arith, lt))
drop-got (y ∷ ys) zero x lt e = ap (λ z. z ∷ ys) (sym e)
drop-got (y ∷ ys) (suc i) x lt e = rw add-one (rw add-one at (drop-got ys i x (omega (arith, lt)) e))

pub drop-none : {A : Type 0} (xs : List A) (i : ℕ) → slice_get xs i ≡ None → drop i xs ≡ []
drop-none [] zero e = refl
drop-none [] (suc i) e = refl
drop-none (x ∷ xs) zero e = absurd (cc)
drop-none (x ∷ xs) (suc i) e = drop-none xs i e

-- the form of a row
pub form-at-is : (s : Schema) (forms : List Form) (o : Option ℕ) → form_of_number forms (Some o) ≡ form_among forms o
form-at-is s forms None = refl
form-at-is s forms (Some n) = refl

pub form-of-row : (s : Schema) (t : Rows) (i : ℕ) (o : Option ℕ) → slice_get t.form_of.items i ≡ Some o
    → form_in_rows t i ≡ form_among t.forms.items o
form-of-row s t i o e = ap (form_of_number t.forms.items) e ∙ form-at-is s t.forms.items o

pub got : {A : Type 0} (xs : List A) (i : ℕ) → i < length xs → (x : A) × (slice_get xs i ≡ Some x)
got [] i lt = absurd (omega (arith, lt))
got (x ∷ xs) zero lt = (x, refl)
got (x ∷ xs) (suc i) lt = got xs i (omega (arith, lt))
