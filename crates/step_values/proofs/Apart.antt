-- Rows stand apart as a column grows.
use Rattle.std.proofs.Common.{◌≡◌, ◌<◌, ◌≤◌, ◌+◌, ℕ, zero, suc, List, [], ◌∷◌, ◌++◌, length, Some, slice_get, get_or, ap, subst, arith, ◌⊎◌, inl, inr}
use Rattle.std.specs.List.{All}
use Rattle.std.proofs.lemmas.List.Elements.{All-nil, All-push, All-append}
use Rattle.std.proofs.lemmas.List.Quantifiers.{all_pairs_push}
use Rattle.std.proofs.lemmas.Option.{slice_get-get_or}
use Rattle.parsing.specs.Nodes.{IsColumn, AreBefore}
use Rattle.parsing.specs.declared.column.Run.{Run}
use Rattle.step_values.specs.declared.cell.Cell.{Cell}
use Rattle.step_values.specs.steps.Building.{AreWithin, EndsBefore, IsOutside, StandApart}
use Rattle.step_values.specs.Cells.{reach_of, IsIn, IsInside, value_nodes}
use Rattle.step_values.proofs.Asking.{inside_reach}
use Rattle.step_values.proofs.Reading.{within_at}

module _ {A : Type 0} where
  got_either : (xs ys : List A) (i : ℕ) (x : A) → slice_get (xs ++ ys) i ≡ Some x
      → ((i < length xs) × (slice_get xs i ≡ Some x)) ⊎ ((length xs ≤ i) × (j : ℕ) × (slice_get ys j ≡ Some x))
  got_either [] ys i x e = inr (omega arith, i, e)
  got_either (z ∷ xs) ys zero x e = inl (omega arith, e)
  got_either (z ∷ xs) ys (suc i) x e = go (got_either xs ys i x e)
    where
      go : ((i < length xs) × (slice_get xs i ≡ Some x)) ⊎ ((length xs ≤ i) × (j : ℕ) × (slice_get ys j ≡ Some x))
          → ((suc i < suc (length xs)) × (slice_get xs i ≡ Some x))
          ⊎ ((suc (length xs) ≤ suc i) × (j : ℕ) × (slice_get ys j ≡ Some x))
      go (inl h) = let l = h.0 in inl (omega (arith, l), h.1)
      go (inr h) = let l = h.0 in inr (omega (arith, l), h.1, h.2)

  only_one : (x y : A) (i : ℕ) → slice_get (x ∷ []) i ≡ Some y → x ≡ y
  only_one x y zero e = cc
  only_one x y (suc i) e = absurd (cc)

before_at : (n : ℕ) (cs : List Cell) (i : ℕ) (c : Cell) → AreBefore value_nodes n cs → slice_get cs i ≡ Some c
    → reach_of c ≤ n
before_at n [] i c h e = absurd (cc)
before_at n (d ∷ cs) zero c h e = let same : d ≡ c = cc in subst (λ x. reach_of x ≤ n) same h.0
before_at n (d ∷ cs) (suc i) c h e = before_at n cs i c h.1 e

end_within : (n : ℕ) (runs : List Run) → AreWithin n runs → (i : ℕ) (d : Run) → i < length runs
    → (get_or runs i d).first + (get_or runs i d).count ≤ n
end_within n runs h i d lt = within_at n runs i (get_or runs i d) h (slice_get-get_or runs i d lt)

-- what is right inside a cell that stands behind all runs
pub outside_behind : (n : ℕ) (runs : List Run) → AreWithin n runs → (c : Cell) → ((k : ℕ) → IsInside c k → n ≤ k)
    → IsOutside runs c
outside_behind n runs h c start k inside i d lt place =
    let end = end_within n runs h i d lt in
    let from = start k inside in
    let to = place.1 in
    omega (arith, end, from, to)

-- a run more, behind it
outside_more : (runs : List Run) (r : Run) (c : Cell) → IsOutside runs c → reach_of c ≤ r.first
    → IsOutside (runs ++ r ∷ []) c
outside_more runs r c h low k inside =
    All-push (λ q. IsIn q k → ⊥) runs r (h k inside) behind
  where
    behind : IsIn r k → ⊥
    behind place = let to = inside_reach c k inside in let from = place.0 in omega (arith, low, to, from)

pub none_apart : StandApart [] []
none_apart = record {
  turn = λ i j d l m. absurd (omega (arith, m));
  before = λ i r at k c place got. absurd (cc);
  outside = All-nil (IsOutside []);
}

module _ (old : List Cell) (runs : List Run) (within : AreWithin (length old) runs) (h : StandApart old runs)
    (cs : List Cell) (out : All (IsOutside runs) cs) where
  before_grown : (i : ℕ) (r : Run) → slice_get runs i ≡ Some r → (k : ℕ) (c : Cell) → IsIn r k
      → slice_get (old ++ cs) k ≡ Some c → reach_of c ≤ r.first
  before_grown i r at k c place got = go (got_either old cs k c got)
    where
      go : ((k < length old) × (slice_get old k ≡ Some c)) ⊎ ((length old ≤ k) × (j : ℕ) × (slice_get cs j ≡ Some c))
          → reach_of c ≤ r.first
      go (inl there) = h.before i r at k c place there.1
      go (inr there) =
          let end = within_at (length old) runs i r within at in
          let from = there.0 in
          let to = place.1 in
          absurd (omega (arith, end, from, to))

  -- cells more
  pub grown_apart : StandApart (old ++ cs) runs
  grown_apart = record {
    turn = h.turn;
    before = before_grown;
    outside = All-append (IsOutside runs) old cs h.outside out;
  }

  -- the further cells are a row
  module _ (column_is : IsColumn value_nodes old) (before : AreBefore value_nodes (length old) cs) (r : Run)
      (first : r.first ≡ length old) where
    low_old : (k : ℕ) (d : Cell) → k < length old → IsOutside (runs ++ r ∷ []) (get_or old k d)
    low_old k d lt =
        let low : reach_of (get_or old k d) ≤ k = column_is k (get_or old k d) (slice_get-get_or old k d lt) in
        outside_more runs r (get_or old k d) (h.outside k d lt) (omega (arith, low, lt, first))

    low_new : (k : ℕ) (d : Cell) → k < length cs → IsOutside (runs ++ r ∷ []) (get_or cs k d)
    low_new k d lt =
        let low = before_at (length old) cs k (get_or cs k d) before (slice_get-get_or cs k d lt) in
        outside_more runs r (get_or cs k d) (out k d lt) (omega (arith, low, first))

    before_more : (i : ℕ) (q : Run) → slice_get (runs ++ r ∷ []) i ≡ Some q → (k : ℕ) (c : Cell) → IsIn q k
        → slice_get (old ++ cs) k ≡ Some c → reach_of c ≤ q.first
    before_more i q at k c place got = go (got_either runs (r ∷ []) i q at)
      where
        last : (j : ℕ) → slice_get (r ∷ []) j ≡ Some q → ((k < length old) × (slice_get old k ≡ Some c))
            ⊎ ((length old ≤ k) × (j : ℕ) × (slice_get cs j ≡ Some c)) → reach_of c ≤ q.first
        last j is (inl there) =
            let same : r.first ≡ q.first = ap (λ (x : Run). x.first) (only_one r q j is) in
            let from = place.0 in
            let to = there.0 in
            absurd (omega (arith, same, from, to, first))
        last j is (inr there) =
            let same : r.first ≡ q.first = ap (λ (x : Run). x.first) (only_one r q j is) in
            let low = before_at (length old) cs there.1 c before there.2 in
            omega (arith, low, same, first)

        go : ((i < length runs) × (slice_get runs i ≡ Some q))
            ⊎ ((length runs ≤ i) × (j : ℕ) × (slice_get (r ∷ []) j ≡ Some q)) → reach_of c ≤ q.first
        go (inl there) = before_grown i q there.1 k c place got
        go (inr there) = last there.1 there.2 (got_either old cs k c got)

    pub row_apart : StandApart (old ++ cs) (runs ++ r ∷ [])
    row_apart = record {
      turn = all_pairs_push EndsBefore runs r h.turn
          (λ i d lt. let end = end_within (length old) runs within i d lt in omega (arith, end, first));
      before = before_more;
      outside = All-append (IsOutside (runs ++ r ∷ [])) old cs low_old low_new;
    }
