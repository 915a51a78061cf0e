-- Values that stand side by side in a column.
use Rattle.std.proofs.Common.{◌≡◌, ◌<◌, ◌≤◌, ◌+◌, ℕ, zero, suc, List, [], ◌∷◌, Some, None, ◌∙◌, ap, subst, arith, refl, slice_get}
use Rattle.parsing.specs.Nodes.{run}
use Rattle.parsing.specs.declared.column.Run.{Run}
use Rattle.step_values.specs.steps.Building.{AreWithin}
use Rattle.step_values.specs.Cells.{values_at}
use Rattle.step_values.specs.AgreementTests.{value_count}
use Rattle.step_values.specs.steps.Slots.{nth}
use Rattle.step_values.specs.Values.{Value, Values, none, more}
use Rattle.step_values.specs.Views.{all_of}

pub nth_over : (vs : Values) (i : ℕ) → value_count vs ≤ i → nth vs i ≡ None
nth_over none i h = refl
nth_over (more v vs) zero h = absurd (omega (arith, h))
nth_over (more v vs) (suc i) h = nth_over vs i (omega (arith, h))

size_run : (f : ℕ → Value) (first n : ℕ) → value_count (all_of (run f first n)) ≡ n
size_run f first zero = refl
size_run f first (suc n) = ap suc (size_run f (suc first) n)

pub run_size : (f : ℕ → Value) (r : Run) → value_count (values_at f r) ≡ r.count
run_size f r = size_run f r.first r.count

pub nth_run : (f : ℕ → Value) (first n i : ℕ) → i < n → nth (all_of (run f first n)) i ≡ Some (f (first + i))
nth_run f first zero i l = absurd (omega (arith, l))
nth_run f first (suc n) zero l = let e : first ≡ first + 0 = omega arith in ap (λ k. Some (f k)) e
nth_run f first (suc n) (suc i) l =
    let e : suc first + i ≡ first + suc i = omega arith in
    nth_run f (suc first) n i (omega (arith, l)) ∙ ap (λ k. Some (f k)) e

-- each run ends within the column
pub within_at : (n : ℕ) (rs : List Run) (i : ℕ) (r : Run) → AreWithin n rs → slice_get rs i ≡ Some r
    → r.first + r.count ≤ n
within_at n [] i r h e = absurd (cc)
within_at n (s ∷ rs) zero r h e =
    let same : s ≡ r = cc in subst (λ x. x.first + x.count ≤ n) same h.0
within_at n (s ∷ rs) (suc i) r h e = within_at n rs i r h.1 e
