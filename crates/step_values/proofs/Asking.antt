-- A cell says what it does by what is inside it alone.
use Rattle.std.proofs.Common.{◌≡◌, ◌<◌, ◌≤◌, ◌+◌, ℕ, zero, suc, ◌∷◌, refl, ap, arith}
use Rattle.parsing.specs.Nodes.{run, AsksChildrenAlone}
use Rattle.step_values.specs.declared.cell.Cell.{Cell}
use Rattle.step_values.specs.declared.cell.Cell.TheVariants as cells
use Rattle.step_values.specs.Cells.{inner_of, reach_of, IsInside, value_by, value_nodes}
use Rattle.step_values.specs.Values.{Value, typed, sequence, bag}
use Rattle.step_values.specs.Views.{all_of, word_of}

pub run_alike : {T : Type 0} (f g : ℕ → T) (first n : ℕ) → ((k : ℕ) → first ≤ k → k < first + n → f k ≡ g k)
    → run f first n ≡ run g first n
run_alike f g first zero e = refl
run_alike f g first (suc n) e =
    λ d. e first (omega arith) (omega arith) d
    ∷ run_alike f g (suc first) n (λ k l m. e k (omega (arith, l)) (omega (arith, m))) d

pub asks_places : (f g : ℕ → Value) (c : Cell) → ((k : ℕ) → IsInside c k → f k ≡ g k) → value_by f c ≡ value_by g c
asks_places f g (cells.Typed high low w) e = ap (typed (word_of w)) (e (inner_of high low) refl)
asks_places f g (cells.Sequence r) e =
    ap (λ l. sequence (all_of l)) (run_alike f g r.first r.count (λ k l m. e k (l, m)))
asks_places f g (cells.Bag r) e = ap (λ l. bag (all_of l)) (run_alike f g r.first r.count (λ k l m. e k (l, m)))
asks_places f g cells.Unset e = refl
asks_places f g cells.Derived e = refl
asks_places f g (cells.Number d) e = refl
asks_places f g (cells.Text t) e = refl
asks_places f g (cells.Bits b) e = refl
asks_places f g (cells.Element w) e = refl
asks_places f g (cells.Reference y row) e = refl

pub inside_reach : (c : Cell) (k : ℕ) → IsInside c k → k < reach_of c
inside_reach (cells.Typed high low w) k i = omega (arith, i)
inside_reach (cells.Sequence r) k i = i.1
inside_reach (cells.Bag r) k i = i.1
inside_reach cells.Unset k i = absurd i
inside_reach cells.Derived k i = absurd i
inside_reach (cells.Number d) k i = absurd i
inside_reach (cells.Text t) k i = absurd i
inside_reach (cells.Bits b) k i = absurd i
inside_reach (cells.Element w) k i = absurd i
inside_reach (cells.Reference y row) k i = absurd i

pub asks_inside : AsksChildrenAlone value_nodes
asks_inside f g c e = asks_places f g c (λ k i. e k (inside_reach c k i))
