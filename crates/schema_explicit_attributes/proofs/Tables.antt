-- Lines that are made along an order.
use Rattle.std.specs.Prelude.{◌≡◌, ℕ, ◌+◌, ◌<◌, Bool, true, false, ◌⊎◌, List, [], ◌∷◌, ◌++◌, map, drop, set, get_or, length, eqb}
use Rattle.std.specs.List.{concat}
use Rattle.std.proofs.Common.{refl, inl, inr, ap, sym, subst, ◌∙◌, arith}
use Rattle.std.proofs.lemmas.Bool.Decides.{nat_tests}
use Rattle.graphs.specs.Graphs.{Graph, has, next, Step, StaysBelow}
use Rattle.graphs.specs.Rounds.{added}
use Rattle.graphs.proofs.Found.{has-added}
use Rattle.graphs.proofs.Searching.{either}
use Rattle.graphs.proofs.RowLists.{next-written, next-unwritten}
use Rattle.graphs.proofs.Gathered.{added-append, drop-next, has-concat}
use Rattle.schema_explicit_attributes.specs.SupertypeLines.{line_from}

pub line-next : (t : Graph) (after found new row all : List ℕ) (i d : ℕ) → i < length after
    → row ≡ next t (get_or after i d) → new ≡ added found row
    → added found (concat (map (next t) (drop i after))) ≡ all
    → added new (concat (map (next t) (drop (i + 1) after))) ≡ all
line-next t after found new row all i d lt at is h =
    let rest = concat (map (next t) (drop (i + 1) after)) in
    let split : concat (map (next t) (drop i after)) ≡ row ++ rest =
    ap (λ (bs : List ℕ). concat (map (next t) bs)) (drop-next after i d lt)
    ∙ ap (λ (r : List ℕ). r ++ rest) (sym at) in
    ap (λ (xs : List ℕ). added xs rest) is ∙ added-append found row rest ∙ ap (added found) (sym split) ∙ h

-- a line is of the vertex and of the lines that it is made of
line-within : (t : Graph) (a n : ℕ) (bs : List ℕ) → StaysBelow n t → a < n → (b : ℕ)
    → has (line_from a (map (next t) bs)) b ≡ true → b < n
line-within t a n bs low lt b m =
    by (either (eqb b a) (has (concat (map (next t) bs)) b)
    (sym (has-added [] (a ∷ concat (map (next t) bs)) b) ∙ m))
  where
    by : (eqb b a ≡ true) ⊎ (has (concat (map (next t) bs)) b ≡ true) → b < n
    by (inl e) = let same : b ≡ a = grind (arith, nat_tests) in omega (arith, lt, same)
    by (inr e) = has-concat n t bs low b e

module _ {X : Type 0} (f : X → List ℕ) where
  -- the table stays below the bound
  pub table-below : (table : List X) (a : ℕ) (row : X) (bs : List ℕ) (m n : ℕ) → StaysBelow m (map f table) → n ≡ m
      → a < m → a < length table → f row ≡ line_from a (map (next (map f table)) bs)
      → StaysBelow n (map f (set table a row))
  table-below table a row bs m n low same within lt is c b e = by (eqb c a) refl
    where
      by : (x : Bool) → eqb c a ≡ x → b < n
      by true here =
          let at : c ≡ a = grind (arith, nat_tests) in
          let made : has (line_from a (map (next (map f table)) bs)) b ≡ true =
          ap (λ (r : List ℕ). has r b) (sym is ∙ sym (next-written f table a row lt))
          ∙ subst (λ (y : ℕ). Step (map f (set table a row)) y b) at e in
          let below = line-within (map f table) a m bs low within b made in
          omega (arith, below, same)
      by false other =
          let old : Step (map f table) c b =
          ap (λ (r : List ℕ). has r b)
          (sym (next-unwritten f table a row c
          (λ (at : c ≡ a). (let yes : eqb c a ≡ true = grind (arith, nat_tests) in absurd (cc))))) ∙ e in
          let below = low c b old in omega (arith, below, same)

  pub line-so : (lent table : List X) (a : ℕ) (row after bs : List ℕ)
      → row ≡ line_from a (map (next (map f lent)) after) → lent ≡ table → after ≡ bs
      → row ≡ line_from a (map (next (map f table)) bs)
  line-so lent table a row after bs is same edge =
      is ∙ ap (λ (ts : List X). line_from a (map (next (map f ts)) after)) same
      ∙ ap (λ (r : List ℕ). line_from a (map (next (map f table)) r)) edge
