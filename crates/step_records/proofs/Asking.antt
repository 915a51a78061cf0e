-- A cell says what it does by what is inside it alone.
use Rattle.std.proofs.Common.{◌≡◌, ◌<◌, ◌≤◌, ◌+◌, ℕ, zero, suc, List, ◌∷◌, refl, ap, arith}
use Rattle.parsing.specs.Nodes.{run, AsksChildrenAlone}
use Rattle.step_structures.specs.Trees.{Tree, group}
use Rattle.step_records.specs.declared.cell.Kind.{Kind}
use Rattle.step_records.specs.declared.cell.Kind.TheVariants as kinds
use Rattle.step_records.specs.Cells.{all_of, typed_of, reach_as, says_as, parameters}

run_alike : {T : Type 0} (f g : ℕ → T) (first n i : ℕ) → ((k : ℕ) → k < i → f k ≡ g k) → first + n ≤ i
    → run f first n ≡ run g first n
run_alike f g first zero i e l = refl
run_alike f g first (suc n) i e l =
    λ d. e first (omega (arith, l)) d ∷ run_alike f g (suc first) n i e (omega (arith, l)) d

module _ (text : List ℕ) where
  alike : (f g : ℕ → Tree) (kind : Kind) (at len : ℕ) → ((k : ℕ) → k < reach_as kind at len → f k ≡ g k)
      → says_as text f kind at len ≡ says_as text g kind at len
  alike f g kinds.Typed at len e = ap typed_of (run_alike f g at 2 (at + 2) e (omega arith))
  alike f g kinds.List at len e = ap (λ l. group (all_of l)) (run_alike f g at len (at + len) e (omega arith))
  alike f g (kinds.Leaf k) at len e = refl

  pub asks_inside : AsksChildrenAlone (parameters text)
  asks_inside f g c e = alike f g c.kind c.at c.len e
