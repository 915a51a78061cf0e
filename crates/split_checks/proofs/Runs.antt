-- The pairs of one round.
use Rattle.std.proofs.Common.{◌≡◌, ◌≢◌, ◌≤◌, ◌<◌, ℕ, ◌+◌, ◌-◌, List, sym, ◌∙◌, ap, subst, inl, inr, length, arith}
use Rattle.std.specs.Prelude.{◌↔◌}
use Rattle.std.specs.List.{All, between}
use Rattle.std.proofs.lemmas.Bool.{cases_eq, cases_lt}
use Rattle.std.proofs.lemmas.List.{get_or_default}
use Rattle.std.proofs.lemmas.List.Edits.{get_or-between, length-between}
use Rattle.partitions.specs.declared.pairs.Pair.{Pair}
use Rattle.partitions.specs.Refinements.{HasPair, HaveSamePairs}
use Rattle.partitions.specs.steps.Steps.{pair_at}
use Rattle.partition_edges.proofs.Gathering.{pair}
use Rattle.split_checks.specs.steps.ComputedWalk.{IsRun}
use Rattle.split_checks.specs.steps.Moves.{MovedAlike, round_at}

abbrev pub no_pair : Pair
no_pair = pair 0 0 0

-- what is held stands at an index
pub index_of : (ps : List Pair) (c i x : ℕ) → HasPair ps c i x
    → (k : ℕ) × (k < length ps) × (pair_at ps k ≡ pair c i x)
index_of ps c i x h = (h.0, h.1, get_or_default ps h.0 no_pair (pair c i x) h.1 ∙ h.2)

pub held_at : (ps : List Pair) (k c i x : ℕ) → k < length ps → pair_at ps k ≡ pair c i x → HasPair ps c i x
held_at ps k c i x l e = (k, l, get_or_default ps k (pair c i x) no_pair l ∙ e)

-- two places were moved together up to an earlier round too
pub alike_before : (moves : List Pair) (q r x z : ℕ) → q ≤ r → MovedAlike moves r x z → MovedAlike moves q x z
alike_before moves q r x z le h c i l = h c i (omega arith)

module _ (moves : List Pair) (round first end : ℕ) (is : IsRun moves round first end) (within : end ≤ length moves) where
  abbrev run : List Pair
  run = between first end moves

  run_length : length run ≡ end - first
  run_length = length-between moves first end within

  run_at : (k : ℕ) → first + k < end → pair_at run k ≡ pair_at moves (first + k)
  run_at k l = get_or-between moves first end k no_pair l

  pub in_run : (c i x : ℕ) → HasPair run c i x → (c ≡ round) × HasPair moves c i x
  in_run c i x h =
      let a = index_of run c i x h in
      let l = a.1 in
      let n = run_length in
      let inside : first + a.0 < end = omega (arith, l, n) in
      let there : pair_at moves (first + a.0) ≡ pair c i x = sym (run_at a.0 inside) ∙ a.2 in (
        sym (ap (λ (b : Pair). b.class) there) ∙ is.there (first + a.0) (omega arith) inside,
        held_at moves (first + a.0) c i x (omega (arith, inside, within)) there,
      )

  pub run_places : (n : ℕ) → All (λ a. a.place < n) moves → All (λ a. a.place < n) run
  run_places n all k d l =
      let m = run_length in
      let inside : first + k < end = omega (arith, l, m) in
      subst (λ (a : Pair). a.place < n) (sym (get_or-between moves first end k d inside))
      (all (first + k) d (omega (arith, inside, within)))

  module _ (after : (k : ℕ) → end ≤ k → k < length moves → round_at moves k ≢ round) where
    pub to_run : (i x : ℕ) → HasPair moves round i x → HasPair run round i x
    to_run i x h =
        let a = index_of moves round i x h in
        let class : round_at moves a.0 ≡ round = ap (λ (b : Pair). b.class) a.2 in
        let l = a.1 in
        elim (cases_lt a.0 first) [
          | inl before ↦ absurd (let b = is.before a.0 before in omega (arith, b, class))
          | inr from ↦ elim (cases_lt a.0 end) [
            | inl inside ↦
                let n = run_length in
                let back : first + (a.0 - first) ≡ a.0 = omega (arith, from) in
                held_at run (a.0 - first) round i x (omega (arith, n, inside, from))
                (run_at (a.0 - first) (omega (arith, back, inside)) ∙ ap (pair_at moves) back ∙ a.2)
            | inr behind ↦ absurd (after a.0 behind l class)
          ]
        ]

    pub same_run : (x z : ℕ) → HaveSamePairs run x z
        ↔ ((i : ℕ) → HasPair moves round i x ↔ HasPair moves round i z)
    same_run x z = (
      λ h i. (
        λ a. (in_run round i z ((h round i).0 (to_run i x a))).1,
        λ a. (in_run round i x ((h round i).1 (to_run i z a))).1,
      ),
      λ h c i. (λ a. moved c i x z (λ j. (h j).0) a, λ a. moved c i z x (λ j. (h j).1) a),
    )
      where
        moved : (c i x z : ℕ) → ((j : ℕ) → HasPair moves round j x → HasPair moves round j z) → HasPair run c i x
            → HasPair run c i z
        moved c i x z f a =
            let b = in_run c i x a in
            subst (λ d. HasPair run d i z) (sym b.0)
            (to_run i z (f i (subst (λ d. HasPair moves d i x) b.0 b.1)))

-- round 0
module _ (moves : List Pair) (first : ℕ) (is : IsRun moves 0 first (length moves)) where
  none_after : (k : ℕ) → length moves ≤ k → k < length moves → round_at moves k ≢ 0
  none_after k l m e = absurd (omega (arith, l, m))

  pub alike_first : (x z : ℕ) → MovedAlike moves 0 x z ↔ HaveSamePairs (between first (length moves) moves) x z
  alike_first x z =
      let same = same_run moves 0 first (length moves) is (omega arith) none_after x z in (
        λ h. same.1 (λ i. h 0 i (omega arith)),
        λ h c i l.
            let zero : c ≡ 0 = omega (arith, l) in
            subst (λ d. HasPair moves d i x ↔ HasPair moves d i z) (sym zero) (same.0 h i),
      )

-- a later round, where the pairs behind are those up to round r
module _ (moves : List Pair) (r round first end : ℕ) (is : IsRun moves round first end) (within : end ≤ length moves)
    (low : (k : ℕ) → k < end → round ≤ round_at moves k)
    (done : (k : ℕ) → end ≤ k → k < length moves → round_at moves k ≤ r) (later : r < round) where
  none_between : (c i x : ℕ) → r < c → c < round → HasPair moves c i x → ⊥
  none_between c i x l m h =
      let a = index_of moves c i x h in
      let class : round_at moves a.0 ≡ c = ap (λ (b : Pair). b.class) a.2 in
      elim (cases_lt a.0 end) [
        | inl k ↦ absurd (let b = low a.0 k in omega (arith, b, class, m))
        | inr k ↦ absurd (let b = done a.0 k a.1 in omega (arith, b, class, l))
      ]

  none_after_run : (k : ℕ) → end ≤ k → k < length moves → round_at moves k ≢ round
  none_after_run k l m e = absurd (let b = done k l m in omega (arith, b, e, later))

  -- up to just before the round nothing moves
  pub alike_still : (q x z : ℕ) → q < round → MovedAlike moves r x z → MovedAlike moves q x z
  alike_still q x z l h c i le = elim (cases_lt r c) [
    | inl m ↦ (
      λ a. absurd (none_between c i x m (omega (arith, l, le)) a),
      λ a. absurd (none_between c i z m (omega (arith, l, le)) a),
    )
    | inr m ↦ h c i m
  ]

  -- in the round, places move alike if they also have the same pairs of its run
  pub alike_next : (x z : ℕ) → MovedAlike moves round x z
      ↔ (MovedAlike moves r x z × HaveSamePairs (between first end moves) x z)
  alike_next x z =
      let same = same_run moves round first end is within none_after_run x z in (
        λ h. (
          alike_before moves r round x z (omega (arith, later)) h,
          same.1 (λ i. h round i (omega arith)),
        ),
        λ h c i le. elim (cases_eq c round) [
          | inl e ↦ subst (λ d. HasPair moves d i x ↔ HasPair moves d i z) (sym e) (same.0 h.1 i)
          | inr n ↦ alike_still c x z (omega (arith, le, n)) h.0 c i (omega arith)
        ],
      )

  pub run_is_later : first < end → (k : ℕ) → first ≤ k → k < length moves → round_at moves k ≤ round
  run_is_later some k l m = elim (cases_lt k end) [
    | inl inside ↦ (let e = is.there k l inside in omega (arith, e))
    | inr behind ↦ (let b = done k behind m in omega (arith, b, later))
  ]
