-- Rounds, as what their pairs part.
use Rattle.std.proofs.Common.{◌≡◌, ◌≢◌, ◌≤◌, ◌<◌, ℕ, List, sym, ap, subst, inl, inr, length, arith}
use Rattle.std.specs.Prelude.{◌↔◌, slice_index}
use Rattle.std.proofs.lemmas.Bool.{cases_eq}
use Rattle.partitions.specs.declared.pairs.Pair.{Pair}
use Rattle.partitions.specs.Layouts.{Layout, size, count, class_in}
use Rattle.partitions.specs.Refinements.{HaveSamePairs, IsPartedByNumbers, IsPartedByPairs}
use Rattle.partitions.proofs.Sets.{finer_trans}
use Rattle.partition_edges.specs.declared.edges.Edge.{Edge}
use Rattle.partition_edges.specs.Edges.{AreEdges, AgreeAt, ReferAlike}
use Rattle.partition_edges.specs.steps.Starts.{OneClass}
use Rattle.partition_edges.specs.steps.Steps.{AgreeBelow, Gathers}
use Rattle.partition_refinement.specs.steps.Turns.{IsRound, IsFirstRound}
use Rattle.partition_edges.proofs.Parting.{agree_self, pairs_agree}

-- where these are the classes themselves
module _ (edges : List Edge) (p : Layout) (low : ℕ) (ps : List Pair) (known : (x : ℕ) → x < size p → class_in p x < count p)
    (are : AreEdges (size p) edges) (g : Gathers edges p p low (count p) ps) where
  pub rounds_part : (q : Layout) → IsPartedByPairs p q ps → IsRound edges low p q
  rounds_part q parted = record {
    laid = parted.laid;
    finer = parted.finer;
    settled = parted.settled;
    parts = λ x z l m same one two.
        let by = parted.parts x z l m in
        elim (cases_eq x z) [
          | inl e ↦ (λ _. subst (AgreeAt edges (OneClass p) x) e (agree_self edges p p low ps known are g x), λ _. ap (class_in q) e)
          | inr n ↦
              let agree = pairs_agree edges p p low ps known are g x z n l m same one two in
              (λ e. agree.0 (by.0 e).1, λ a. by.1 (same, agree.1 a))
        ];
  }

  pub first_parts : (q r : Layout) (shapes : List ℕ) → low ≤ 1 → length shapes ≡ size p → ReferAlike edges shapes
      → IsPartedByNumbers p q shapes → IsPartedByPairs q r ps → IsFirstRound edges shapes p r
  first_parts q r shapes low_is each alike one two =
      let sizes = one.finer.places in
      -- there is but one class below
      let below : (x z : ℕ) → x < size p → z < size p → slice_index shapes x ≡ slice_index shapes z
      → AgreeBelow edges p low x z =
      λ x z l m shape i t e under.
      let f = alike x z i t (omega arith) (omega arith) shape e in
      (f.0, f.1, λ under_too. omega arith) in
      record {
        laid = two.laid;
        finer = finer_trans p q r one.finer two.finer;
        settled = two.settled;
        parts = λ x z l m.
            let a = one.parts x z l m in
            let b = two.parts x z (omega arith) (omega arith) in
            let agree : x ≢ z → class_in p x ≡ class_in p z → slice_index shapes x ≡ slice_index shapes z
            → HaveSamePairs ps x z ↔ AgreeAt edges (OneClass p) x z =
            λ n classes shape. pairs_agree edges p p low ps known are g x z n l m classes (below x z l m shape)
            (below z x m l (sym shape)) in
            elim (cases_eq x z) [
              | inl e ↦ (
                λ _. (
                  ap (class_in p) e,
                  ap (slice_index shapes) e,
                  subst (AgreeAt edges (OneClass p) x) e (agree_self edges p p low ps known are g x),
                ),
                λ _. ap (class_in r) e,
              )
              | inr n ↦ (
                λ e.
                    let f = b.0 e in
                    let both = a.0 f.0 in
                    (both.0, both.1, (agree n both.0 both.1).0 f.1),
                λ h. b.1 (a.1 (h.0, h.1), (agree n h.0 h.1).1 h.2),
              )
            ];
      }
