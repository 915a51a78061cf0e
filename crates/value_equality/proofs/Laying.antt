-- Values that are laid down, or refused.
use Rattle.std.proofs.Common.{◌≡◌, ◌<◌, ℕ, zero, suc, Bool, true, false, List, [], ◌∷◌, length, get_or, nat_eq, refl, sym, ◌∙◌, ap, arith}
use Rattle.std.specs.Prelude.{◌&&◌, is_some}
use Rattle.std.specs.List.{IsDistinct}
use Rattle.population_rows.specs.declared.index.RowIndex.{RowIndex}
use Rattle.step_values.specs.declared.value.PlainValue.{PlainValue}
use Rattle.step_values.specs.Views.{value_of, values_of}
use Rattle.value_equality.specs.declared.fault.PlainFault.{PlainFault}
use Rattle.value_equality.specs.declared.fault.PlainFault.TheVariants.{TooManyRows, DuplicateRow, UnknownReference, Memory}
use Rattle.value_equality.specs.declared.row.PlainRow.{PlainRow}
use Rattle.value_equality.specs.steps.ComputedClosure.{IsRefusal, references_pass, all_references_pass, rows_pass}
use Rattle.value_equality.specs.steps.ComputedPlaces.{Finds, is_found}
use Rattle.value_equality.specs.steps.Faults.{IsFaultOf}
use Rattle.value_equality.specs.Rows.{Row, names, AreFew}
use Rattle.value_equality.specs.Views.{rows_of}
use Rattle.value_equality.proofs.Placing.{name_placed, passes}

-- what is refused is refused in more
refused_too : (a b : Bool) → (a ≡ false → b ≡ false) → (e : PlainFault) → IsRefusal a e → IsRefusal b e
refused_too a b f TooManyRows r = absurd r
refused_too a b f DuplicateRow r = absurd r
refused_too a b f UnknownReference r = f r
refused_too a b f Memory r = tt

stays_false : (a b : Bool) → b ≡ false → (a && b) ≡ false
stays_false true b e = e
stays_false false b e = refl

module _ (p : ℕ → Bool) where
  value_fails : (vs : List PlainValue) (i : ℕ) (v : PlainValue) → i < length vs → v ≡ get_or vs i v
      → references_pass p (value_of v) ≡ false → all_references_pass p (values_of vs) ≡ false
  value_fails [] i v l at e = absurd (omega (arith, l))
  value_fails (u ∷ vs) zero v l at e =
      ap (λ b. b && all_references_pass p (values_of vs)) (ap (λ w. references_pass p (value_of w)) (sym at) ∙ e)
  value_fails (u ∷ vs) (suc i) v l at e =
      stays_false (references_pass p (value_of u)) (all_references_pass p (values_of vs))
      (value_fails vs i v (omega (arith, l)) at e)

  row_fails : (rows : List PlainRow) (i : ℕ) (r : PlainRow) → i < length rows → r ≡ get_or rows i r
      → all_references_pass p (values_of r.values.items) ≡ false → rows_pass p (rows_of rows) ≡ false
  row_fails [] i r l at e = absurd (omega (arith, l))
  row_fails (q ∷ rows) zero r l at e =
      ap (λ b. b && rows_pass p (rows_of rows))
      (ap (λ (s : PlainRow). all_references_pass p (values_of s.values.items)) (sym at) ∙ e)
  row_fails (q ∷ rows) (suc i) r l at e =
      stays_false (all_references_pass p (values_of q.values.items)) (rows_pass p (rows_of rows))
      (row_fails rows i r (omega (arith, l)) at e)

  -- values are refused where one is
  pub value_refused : (vs : List PlainValue) (i : ℕ) (v : PlainValue) → i < length vs → v ≡ get_or vs i v
      → (e : PlainFault) → IsRefusal (references_pass p (value_of v)) e
      → IsRefusal (all_references_pass p (values_of vs)) e
  value_refused vs i v l at = refused_too (references_pass p (value_of v)) (all_references_pass p (values_of vs))
      (value_fails vs i v l at)

  -- Rows are refused if one of them is.
  pub row_refused : (rows : List PlainRow) (i : ℕ) (r : PlainRow) → i < length rows → r ≡ get_or rows i r
      → (e : PlainFault) → IsRefusal (all_references_pass p (values_of r.values.items)) e
      → IsRefusal (rows_pass p (rows_of rows)) e
  row_refused rows i r l at = refused_too (all_references_pass p (values_of r.values.items)) (rows_pass p (rows_of rows))
      (row_fails rows i r l at)

-- rows that are refused, with few names of which none stands twice, are no population
pub refused_rows : (index : RowIndex) (rows : List Row) → Finds index (names rows) → AreFew rows
    → IsDistinct nat_eq (names rows) → (e : PlainFault) → IsRefusal (rows_pass (is_found index) rows) e
    → IsFaultOf rows e
refused_rows index rows finds few distinct TooManyRows r = absurd r
refused_rows index rows finds few distinct DuplicateRow r = absurd r
refused_rows index rows finds few distinct UnknownReference r = (
  few,
  distinct,
  λ population. both_ways _ (passes (is_found index) rows (λ y. ap is_some (finds y) ∙ name_placed rows y) population) r,
)
  where
    both_ways : (t : Bool) → t ≡ true → t ≡ false → ⊥
    both_ways t h f = absurd (cc)
refused_rows index rows finds few distinct Memory r = tt
