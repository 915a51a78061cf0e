-- Elements whose indices are worth a number.
use Rattle.std.proofs.Common.{◌≡◌, ◌<◌, ℕ, zero, suc, refl, ap, ◌∙◌, arith}
use Rattle.std.specs.Prelude.{ℤ, pos, ◌+ℤ◌, ◌^◌, ◌&&◌, Bool, true, false, if◌then◌else◌}
use Rattle.std.specs.Ordering.{int_eq}
use Rattle.std.proofs.lemmas.Bool.Decides.{nat_tests, Decides-int_eq}
use Rattle.std.proofs.lemmas.Int.{ints}
use Rattle.step_literals.specs.Decimals.{finest}
use Rattle.step_literals.specs.steps.MagnitudeLemmas.{ten_pos}
use Rattle.step_literals.proofs.UnitLemmas.{times_cancel}
use Rattle.express_logic.specs.Literals.{whole_units}
use Rattle.express_logic.specs.Data.{Datum, indeterminate, Data, none, more}
use Rattle.express_logic.specs.Holdings.{element_at}
use Rattle.conformance.specs.Operations.{is_index, element_from}
use Rattle.conformance.specs.Expressions.{or_this}
use Rattle.conformance.specs.MeaningLaws.{ElementsOfListsAreInOrder}

left_of : (p q : Bool) → (p && q) ≡ true → p ≡ true
left_of true q e = refl
left_of false q e = absurd (cc)

right_of : (p q : Bool) → (p && q) ≡ true → q ≡ true
right_of true q e = e
right_of false q e = absurd (cc)

both_of : (p q : Bool) → p ≡ true → q ≡ true → (p && q) ≡ true
both_of p q e f = rw (e, f) refl

-- a number of units is that of one whole number
pub one_whole : (m n : ℤ) → whole_units m ≡ whole_units n → m ≡ n
one_whole m n e = times_cancel m n (10 ^ finest) (ten_pos finest) e

-- an index that isn't worth it is passed over
pub passed : (index z : ℤ) (d : Datum) (ds : Data) → (is_index index ≡ true → whole_units index ≡ z → ⊥)
    → element_from index z (more d ds) ≡ element_from (index +ℤ pos 1) z ds
passed index z d ds never = by (is_index index && int_eq (whole_units index) z) refl (element_from (index +ℤ pos 1) z ds)
  where
    by : (b : Bool) → (is_index index && int_eq (whole_units index) z) ≡ b → (e : Datum)
        → (if b then d else e) ≡ e
    by true h e =
        absurd (never (left_of (is_index index) (int_eq (whole_units index) z) h)
        ((Decides-int_eq (whole_units index) z).0 (right_of (is_index index) (int_eq (whole_units index) z) h)))
    by false h e = refl

here : (index z : ℤ) (d : Datum) (ds : Data) → is_index index ≡ true → whole_units index ≡ z
    → element_from index z (more d ds) ≡ d
here index z d ds i e =
    ap (λ b. if b then d else element_from (index +ℤ pos 1) z ds)
    (both_of (is_index index) (int_eq (whole_units index) z) i ((Decides-int_eq (whole_units index) z).1 e))

-- the index at a place
pub found_at : (ds : Data) (low n : ℤ) (k : ℕ) → n ≡ low +ℤ pos k → is_index n ≡ true
    → element_from low (whole_units n) ds ≡ or_this (element_at k ds) indeterminate
found_at none low n k e i = refl
found_at (more d ds) low n zero e i =
    let same : low ≡ n = omega (arith, ints, e) in
    here low (whole_units n) d ds (ap is_index same ∙ i) (ap whole_units same)
found_at (more d ds) low n (suc k) e i =
    passed low (whole_units n) d ds (λ _ units. (let same = one_whole low n units in absurd (omega (arith, ints, e, same))))
    ∙ found_at ds (low +ℤ pos 1) n k (omega (arith, ints, e)) i

small_index : (n : ℕ) → n < 2 ^ 63 → is_index (pos n) ≡ true
small_index n lt = grind (arith, nat_tests)

pub elements_of_lists_are_in_order : ElementsOfListsAreInOrder
elements_of_lists_are_in_order ds i small =
    found_at ds (pos 1) (pos (suc i)) i (omega (arith, ints)) (small_index (suc i) small)
