-- Groups and labels, round by round.
use Rattle.std.proofs.Common.{◌≡◌, ◌≤◌, ◌<◌, ℕ, ◌+◌, ◌-◌, true, false, List, refl, sym, ◌∙◌, ap, subst, inl, inr, length, arith}
use Rattle.std.specs.Prelude.{◌↔◌, slice_index}
use Rattle.std.specs.List.{between}
use Rattle.std.proofs.lemmas.Bool.{cases_eq, cases_lt, false≢true}
use Rattle.partitions.specs.declared.pairs.Pair.{Pair}
use Rattle.partitions.specs.Layouts.{Layout, size, count, class_in, IsLaid}
use Rattle.partitions.specs.Refinements.{HasPair, HaveSamePairs, IsFiner, IsPartedByPairs}
use Rattle.partition_edges.specs.declared.edges.Edge.{Edge}
use Rattle.partition_edges.specs.Edges.{AgreeAt, AreEdges}
use Rattle.partition_edges.specs.steps.Starts.{IsStarted, OneClass}
use Rattle.partition_edges.specs.steps.Steps.{AgreeBelow, Gathers}
use Rattle.partition_edges.proofs.Parting.{agree_self, pairs_agree}
use Rattle.partition_edges.proofs.Agreement.{agree_map}
use Rattle.split_checks.specs.steps.ComputedWalk.{IsBegun, IsGrouped, IsRun, IsSettled, IsStep, IsTried, MovesHaveGround, MovesHaveGrounds, Stands, StayWhole}
use Rattle.split_checks.specs.steps.Grounds.{StandForOne}
use Rattle.split_checks.specs.steps.Moves.{AreFalling, MovedAlike, round_at}
use Rattle.split_checks.proofs.Runs.{alike_before, alike_first, alike_next, alike_still, index_of, run_is_later}

pub begun : (numbers : List ℕ) (run : List Pair) (p q : Layout) → IsStarted numbers p → IsPartedByPairs p q run
    → IsBegun numbers run q
begun numbers run p q start parted =
    let places = start.places in
    let sizes = parted.finer.places in
    record {
      settled = record {
        laid = parted.laid;
        settled = parted.settled;
        places = omega (arith, places, sizes);
      };
      parts = λ x z l m.
          let x_in : x < size p = omega (arith, l, places) in
          let z_in : z < size p = omega (arith, m, places) in
          let by = parted.parts x z x_in z_in in
          let of_numbers = start.parts x z x_in z_in in
          (λ e. (of_numbers.0 (by.0 e).0, (by.0 e).1), λ h. by.1 (of_numbers.1 h.0, h.1));
    }

pub grouped : (edges : List Edge) (low : ℕ) (labels old new : Layout) (ps : List Pair) → IsLaid labels
    → IsSettled (size labels) old → AreEdges (size labels) edges → Gathers edges labels old low (count labels) ps
    → IsPartedByPairs old new ps → IsGrouped edges low labels old new
grouped edges low labels old new ps laid is are g parted =
    let known : (x : ℕ) → x < size labels → class_in labels x < count labels = λ x l. (laid.within x l).known in
    record {
      settled = record { laid = parted.laid; settled = parted.settled; places = parted.finer.places };
      finer = λ x z l m e. ((parted.parts x z l m).0 e).0;
      parts = λ x z l m same one two.
          let by = parted.parts x z l m in
          elim (cases_eq x z) [
            | inl e ↦ (
              λ _. subst (AgreeAt edges (OneClass labels) x) e (agree_self edges labels old low ps known are g x),
              λ _. ap (class_in new) e,
            )
            | inr n ↦
                let agree = pairs_agree edges labels old low ps known are g x z n l m same one two in
                (λ e. agree.0 (by.0 e).1, λ a. by.1 (same, agree.1 a))
          ];
    }

pub stopped : (edges : List Edge) (run : List Pair) (labels next groups after : Layout)
    → IsTried run groups after false → IsStep edges run labels next groups after false
stopped edges run labels next groups after t = record {
  right = t.right;
  labelled = λ e. absurd (false≢true e);
  grouped = λ e. absurd (false≢true e);
}

-- labels are parted, and then groups
pub stepped : (edges : List Edge) (run : List Pair) (labels next groups same after : Layout) (low : ℕ)
    → low ≡ count labels → IsTried run groups same true → IsPartedByPairs labels next run
    → IsGrouped edges low next same after → IsStep edges run labels next groups after true
stepped edges run labels next groups same after low low_is t parted g =
    let sizes = t.settled.places in
    record {
      right = t.right;
      labelled = λ _. parted;
      grouped = λ _. subst (λ k. IsGrouped edges k next groups after) low_is record {
        settled = record {
          laid = g.settled.laid;
          settled = g.settled.settled;
          places = g.settled.places ∙ sizes;
        };
        finer = λ x z l m e. (t.same refl x z l m).0
            (g.finer x z (omega (arith, l, sizes)) (omega (arith, m, sizes)) e);
        parts = λ x z l m one a b. g.parts x z (omega (arith, l, sizes)) (omega (arith, m, sizes))
            ((t.same refl x z l m).1 one) a b;
      };
    }

-- what agrees by old labels agrees by new ones, where none of them is new
agree_below : (edges : List Edge) (labels next : Layout) (x z : ℕ) → AreEdges (size labels) edges → IsFiner labels next
    → AgreeAt edges (OneClass labels) x z → AgreeBelow edges next (count labels) x z
agree_below edges labels next x z are finer a i t e l =
    let f = a.there i t e in (
      f.0,
      f.1,
      λ m. finer.kept t (are.inside x i t e).1 l ∙ f.2 ∙ sym (finer.kept f.0 (are.inside z i f.0 f.1).1 m),
    )

agree_back : (edges : List Edge) (labels : Layout) (x z : ℕ) → AgreeAt edges (OneClass labels) x z
    → AgreeAt edges (OneClass labels) z x
agree_back edges labels x z a = record {
  there = λ i t e. let f = a.back i t e in (f.0, f.1, sym f.2);
  back = λ i u e. let f = a.there i u e in (f.0, f.1, sym f.2);
}

module _ (moves : List Pair) (own shapes : List ℕ) (edges : List Edge) (are : AreEdges (length own) edges) where
  -- at round 0
  pub first_stands : (first : ℕ) (labels before groups : Layout) → length shapes ≡ length own
      → IsRun moves 0 first (length moves) → IsBegun own (between first (length moves) moves) labels
      → IsBegun shapes (between first (length moves) moves) before → IsGrouped edges 0 labels before groups
      → Stands moves own shapes edges 0 first labels groups
  first_stands first labels before groups each run l g parted =
      let sizes = g.settled.places in
      let none : (x z : ℕ) → AgreeBelow edges labels 0 x z = λ x z i t e m. absurd (omega (arith, m)) in
      let alike = alike_first moves first run in
      let of_groups : (x z : ℕ) → x < length own → z < length own → OneClass groups x z
      ↔ ((slice_index shapes x ≡ slice_index shapes z) × MovedAlike moves 0 x z × AgreeAt edges (OneClass labels) x z) =
      λ x z m n.
      let x_in : x < size before = omega (arith, m, each, sizes) in
      let z_in : z < size before = omega (arith, n, each, sizes) in
      let by = g.parts x z (omega (arith, m, each)) (omega (arith, n, each)) in (
        λ e.
            let one = parted.finer x z x_in z_in e in
            let both = by.0 one in
            (both.0, (alike x z).1 both.1, (parted.parts x z x_in z_in one (none x z) (none z x)).0 e),
        λ h. (parted.parts x z x_in z_in (by.1 (h.0, (alike x z).0 h.1)) (none x z) (none z x)).1 h.2,
      ) in
      record {
        labels_are = l.settled;
        groups_are = record {
          laid = parted.settled.laid;
          settled = parted.settled.settled;
          places = parted.settled.places ∙ sizes ∙ each;
        };
        within = run.order;
        left = run.before;
        done = λ k m n. (let e = run.there k m n in omega (arith, e));
        labelled = λ x z m n.
            let by = l.parts x z m n in (
              λ e. ((by.0 e).0, (alike x z).1 (by.0 e).1),
              λ h. by.1 (h.0, (alike x z).0 h.1),
            );
        grouped = of_groups;
        together = λ x z m n e. ((of_groups x z m n).0 e).1;
        grounded = λ q m. absurd (omega (arith, m));
      }

  -- the state after the next round, from the state after one round
  module _ (r round first end : ℕ) (labels groups : Layout) (s : Stands moves own shapes edges r end labels groups)
      (some : 0 < end) (falling : AreFalling moves) (round_is : round ≡ round_at moves (end - 1))
      (run : IsRun moves round first end) where
    later : r < round
    later = let l = s.left (end - 1) (omega (arith, some)) in omega (arith, l, round_is)

    pub low : (k : ℕ) → k < end → round ≤ round_at moves k
    low k l =
        let within = s.within in
        let f = falling k (end - 1) (omega (arith, l)) (omega (arith, some, within)) in omega (arith, f, round_is)

    pub shorter : first < end
    shorter = elim (cases_lt (end - 1) first) [
      | inl l ↦ absurd (let b = run.before (end - 1) l in omega (arith, b, round_is))
      | inr l ↦ omega (arith, l, some)
    ]

    abbrev pairs : List Pair
    pairs = between first end moves

    next : (x z : ℕ) → MovedAlike moves round x z ↔ (MovedAlike moves r x z × HaveSamePairs pairs x z)
    next = alike_next moves r round first end run s.within low s.done later

    still : (q x z : ℕ) → q < round → MovedAlike moves r x z → MovedAlike moves q x z
    still = alike_still moves r round first end run s.within low s.done later

    label_sizes : size labels ≡ length own
    label_sizes = s.labels_are.places

    -- groups are what goes on together, at each round before this one
    in_group : (q x z : ℕ) → r ≤ q → x < length own → z < length own → MovedAlike moves q x z
        → slice_index shapes x ≡ slice_index shapes z → AgreeAt edges (StandForOne own (MovedAlike moves q)) x z
        → OneClass groups x z
    in_group q x z le l m h shape a = (s.grouped x z l m).1 (
      shape,
      alike_before moves 0 q x z (omega arith) h,
      agree_map edges (length own) (StandForOne own (MovedAlike moves q)) (OneClass labels) x z are
          (λ t u o v w. (s.labelled t u o v).1 (w.0, alike_before moves r q t u le w.1)) a,
    )

    of_group : (q x z : ℕ) → q < round → x < length own → z < length own → OneClass groups x z
        → (slice_index shapes x ≡ slice_index shapes z) × MovedAlike moves q x z
        × AgreeAt edges (StandForOne own (MovedAlike moves q)) x z
    of_group q x z lt l m e =
        let h = (s.grouped x z l m).0 e in (
          h.0,
          still q x z lt (s.together x z l m e),
          agree_map edges (length own) (OneClass labels) (StandForOne own (MovedAlike moves q)) x z are
              (λ t u o v w. (let n = (s.labelled t u o v).0 w in (n.0, still q t u lt n.1))) h.2,
        )

    -- where a group is parted, a split has no ground
    pub stay : MovesHaveGrounds moves own shapes edges → StayWhole pairs groups
    stay h x z l m e =
        let sizes = s.groups_are.places in
        let x_in : x < length own = omega (arith, l, sizes) in
        let z_in : z < length own = omega (arith, m, sizes) in
        let back : (round - 1) + 1 ≡ round = (let k = later in omega (arith, k)) in
        let of = of_group (round - 1) x z (omega (arith, back)) x_in z_in e in
        ((next x z).0 (subst (λ q. MovedAlike moves q x z) back (h (round - 1) x z x_in z_in of.1 of.0 of.2))).1

    module _ (labels_next after : Layout) (step : IsStep edges pairs labels labels_next groups after true) where
      parted : IsPartedByPairs labels labels_next pairs
      parted = step.labelled refl

      by_labels : IsGrouped edges (count labels) labels_next groups after
      by_labels = step.grouped refl

      edges_labels : AreEdges (size labels) edges
      edges_labels = subst (λ n. AreEdges n edges) (sym label_sizes) are

      whole : StayWhole pairs groups
      whole = step.right.0 refl

      below : (x z : ℕ) → AgreeAt edges (OneClass labels) x z → AgreeBelow edges labels_next (count labels) x z
      below x z a = agree_below edges labels labels_next x z edges_labels parted.finer a

      in_groups : (x : ℕ) → x < length own → x < size groups
      in_groups x l = let sizes = s.groups_are.places in omega (arith, l, sizes)

      in_labels : (x : ℕ) → x < length own → x < size labels
      in_labels x l = let sizes = label_sizes in omega (arith, l, sizes)

      labels_then : (x z : ℕ) → x < length own → z < length own → OneClass labels_next x z
          ↔ StandForOne own (MovedAlike moves round) x z
      labels_then x z l m =
          let by = parted.parts x z (in_labels x l) (in_labels z m) in
          let was = s.labelled x z l m in (
            λ e. (let b = by.0 e in let w = was.0 b.0 in (w.0, (next x z).1 (w.1, b.1))),
            λ h. (let n = (next x z).0 h.1 in by.1 (was.1 (h.0, n.0), n.1)),
          )

      groups_finer : (x z : ℕ) → x < length own → z < length own → OneClass after x z → OneClass groups x z
      groups_finer x z l m e = by_labels.finer x z (in_groups x l) (in_groups z m) e

      groups_then : (x z : ℕ) → x < length own → z < length own → OneClass after x z
          ↔ ((slice_index shapes x ≡ slice_index shapes z) × MovedAlike moves 0 x z
          × AgreeAt edges (OneClass labels_next) x z)
      groups_then x z l m =
          let was = s.grouped x z l m in (
            λ e. (let one = groups_finer x z l m e in
                let h = was.0 one in (
                  h.0,
                  h.1,
                  (by_labels.parts x z (in_groups x l) (in_groups z m) one (below x z h.2)
                      (below z x (agree_back edges labels x z h.2))).0 e,
                )),
            λ h. (let old : AgreeAt edges (OneClass labels) x z = agree_map edges (length own) (OneClass labels_next)
                (OneClass labels) x z are
                (λ t u o v w. ((parted.parts t u (in_labels t o) (in_labels u v)).0 w).0) h.2 in
                (by_labels.parts x z (in_groups x l) (in_groups z m) (was.1 (h.0, h.1, old)) (below x z old)
                (below z x (agree_back edges labels x z old))).1 h.2),
          )

      together_then : (x z : ℕ) → x < length own → z < length own → OneClass after x z → MovedAlike moves round x z
      together_then x z l m e =
          let one = groups_finer x z l m e in
          (next x z).1 (s.together x z l m one, whole x z (in_groups x l) (in_groups z m) one)

      ground : (q : ℕ) → q < round → MovesHaveGround moves own shapes edges q
      ground q lt = elim (cases_lt q r) [
        | inl before ↦ s.grounded q before
        | inr from ↦ (λ x z l m h shape a. elim (cases_eq (q + 1) round) [
          | inl e ↦
              let one = in_group q x z from l m h shape a in
              subst (λ k. MovedAlike moves k x z) (sym e) ((next x z).1 (
                alike_before moves r q x z from h,
                whole x z (in_groups x l) (in_groups z m) one,
              ))
          | inr n ↦ still (q + 1) x z (omega (arith, lt, n)) (alike_before moves r q x z from h)
        ])
      ]

      pub next_stands : Stands moves own shapes edges round first labels_next after
      next_stands = record {
        labels_are = record {
          laid = parted.laid;
          settled = parted.settled;
          places = parted.finer.places ∙ label_sizes;
        };
        groups_are = record {
          laid = by_labels.settled.laid;
          settled = by_labels.settled.settled;
          places = by_labels.settled.places ∙ s.groups_are.places;
        };
        within = (let o = run.order in let w = s.within in omega (arith, o, w));
        left = run.before;
        done = run_is_later moves r round first end run s.within low s.done later shorter;
        labelled = labels_then;
        grouped = groups_then;
        together = together_then;
        grounded = ground;
      }

  -- after the last round, all splits have their grounds
  pub all_grounded : (r end : ℕ) (labels groups : Layout) → end ≤ 0 → Stands moves own shapes edges r end labels groups
      → MovesHaveGrounds moves own shapes edges
  all_grounded r end labels groups none s q x z l m h shape a = elim (cases_lt q r) [
    | inl before ↦ s.grounded q before x z l m h shape a
    | inr from ↦ (λ c i le. elim (cases_lt q c) [
      | inl later ↦ (
        λ p. absurd (behind c i x (omega (arith, from, later)) p),
        λ p. absurd (behind c i z (omega (arith, from, later)) p),
      )
      | inr early ↦ h c i early
    ])
  ]
    where
      behind : (c i y : ℕ) → r < c → HasPair moves c i y → ⊥
      behind c i y lt p =
          let k = index_of moves c i y p in
          let class : round_at moves k.0 ≡ c = ap (λ (b : Pair). b.class) k.2 in
          let d = s.done k.0 (omega (arith, none)) k.1 in
          omega (arith, d, class, lt)
