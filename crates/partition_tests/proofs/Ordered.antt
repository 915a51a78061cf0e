-- References in order are at one position of a place one at most.
use Rattle.std.proofs.Common.{◌≡◌, ◌<◌, ℕ, zero, suc, ◌+◌, ◌-◌, List, sym, ◌∙◌, ap, subst, inl, inr, length, get_or, arith}
use Rattle.std.specs.Prelude.{slice_index}
use Rattle.std.specs.List.{All}
use Rattle.std.specs.List.Sorted.{IsPermutation}
use Rattle.std.proofs.lemmas.Bool.{cases_lt}
use Rattle.std.proofs.lemmas.List.{get_or_default}
use Rattle.std.proofs.lemmas.List.Sorted.{Contains-permutation, IsPermutation-sym}
use Rattle.partition_edges.specs.declared.edges.Edge.{Edge}
use Rattle.partition_edges.specs.Edges.{AreEdges, HasEdge, ReferAlike}
use Rattle.partition_tests.specs.steps.Order.{GoesOn, IsBehind, SharesPosition, edge_at}

behind_trans : (a b c : Edge) → IsBehind a b → IsBehind b c → IsBehind a c
behind_trans a b c (inl l) (inl m) = inl (omega arith)
behind_trans a b c (inl l) (inr m) = let e = m.0 in inl (omega arith)
behind_trans a b c (inr l) (inl m) = let e = l.0 in inl (omega arith)
behind_trans a b c (inr l) (inr m) =
    let d = l.0 in
    let e = m.0 in
    let f = l.1 in
    let g = m.1 in
    inr (omega arith, omega arith)

-- no reference is behind another at the same position
not_behind : (x i t u : ℕ) → IsBehind (record { position = i; source = x; target = t })
    (record { position = i; source = x; target = u }) → ⊥
not_behind x i t u (inl l) = omega (arith, l)
not_behind x i t u (inr l) = let m = l.1 in omega (arith, m)

abbrev none : Edge
none = record { position = 0; source = 0; target = 0 }

module _ (n : ℕ) (edges : List Edge) (all : (k : ℕ) → k < length edges → GoesOn n edges k) where
  next : (j k : ℕ) → j + 1 ≡ k → k < length edges → IsBehind (edge_at edges k) (edge_at edges j)
  next j k e within =
      let some : 0 < k = omega arith in
      let same : k - 1 ≡ j = omega arith in
      subst (λ i. IsBehind (edge_at edges k) (edge_at edges i)) same ((all k within).behind some)

  later : (j k : ℕ) → j < k → k < length edges → IsBehind (edge_at edges k) (edge_at edges j)
  later j zero l within = absurd (omega arith)
  later j (suc k) l within = elim (cases_lt j k) [
    | inl m ↦
        behind_trans (edge_at edges (suc k)) (edge_at edges k) (edge_at edges j) (next k (suc k) (omega arith) within)
        (later j k m (omega arith))
    | inr m ↦ next j (suc k) (omega arith) within
  ]

  is_at : (x i t : ℕ) (h : HasEdge edges x i t) → edge_at edges h.0 ≡ record { position = i; source = x; target = t }
  is_at x i t h =
      get_or_default edges h.0 none (record { position = i; source = x; target = t }) h.1 ∙ h.2

  apart : (x i t u : ℕ) (h : HasEdge edges x i t) (m : HasEdge edges x i u) → h.0 < m.0 → ⊥
  apart x i t u h m l =
      not_behind x i u t
      (subst (λ e. IsBehind e (record { position = i; source = x; target = t })) (is_at x i u m)
      (subst (IsBehind (edge_at edges m.0)) (is_at x i t h) (later h.0 m.0 l m.1)))

  pub ordered_are_edges : AreEdges n edges
  ordered_are_edges = record {
    inside = λ x i t h. (
      subst (λ e. e.source < n) (is_at x i t h) (all h.0 h.1).between.0,
      subst (λ e. e.target < n) (is_at x i t h) (all h.0 h.1).between.1,
    );
    one = λ x i t u h m. elim (cases_lt h.0 m.0) [
      | inl l ↦ absurd (apart x i t u h m l)
      | inr l ↦ elim (cases_lt m.0 h.0) [
        | inl k ↦ absurd (apart x i u t m h k)
        | inr k ↦
            let same : h.0 ≡ m.0 = omega arith in
            ap (λ e. e.target) (sym (is_at x i t h) ∙ ap (edge_at edges) same ∙ is_at x i u m)
      ]
    ];
  }

-- their targets are places
pub targets_are_places : (n : ℕ) (edges : List Edge) → AreEdges n edges → All (λ e. e.target < n) edges
targets_are_places n edges are k d l =
    let e = get_or edges k d in
    (are.inside e.source e.position e.target (k, l, get_or_default edges k e d l)).1

-- in another order places of one shape refer at the same positions still
pub permuted_refer_alike : (shapes : List ℕ) (edges others : List Edge) → IsPermutation edges others
    → ReferAlike edges shapes → ReferAlike others shapes
permuted_refer_alike shapes edges others moved alike x z i t l m same e =
    let back = Contains-permutation others edges (record { position = i; source = x; target = t })
    (IsPermutation-sym edges others moved) e in
    let f = alike x z i t l m same back in
    (f.0, Contains-permutation edges others (record { position = i; source = z; target = f.0 }) moved f.1)

-- what is so of each reference is so of all
pub each_alike : (shapes : List ℕ) (edges : List Edge) → ((k : ℕ) → k < length edges → SharesPosition edges shapes k)
    → ReferAlike edges shapes
each_alike shapes edges all x z i t l m same e =
    let at : edge_at edges e.0 ≡ record { position = i; source = x; target = t } =
    get_or_default edges e.0 none (record { position = i; source = x; target = t }) e.1 ∙ e.2 in
    subst (λ (d : Edge). (u : ℕ) × HasEdge edges z d.position u) at
    (all e.0 e.1 z m (subst (λ (d : Edge). slice_index shapes d.source ≡ slice_index shapes z) (sym at) same))
