-- The counted rounds are those of refinement, and each parts something.
use Rattle.std.proofs.Common.{◌≡◌, ◌≤◌, ◌<◌, ℕ, zero, suc, ◌+◌, Bool, true, List, sym, subst, length, arith, add-one}
use Rattle.std.specs.Prelude.{◌↔◌, slice_index}
use Rattle.partitions.specs.Layouts.{Layout, size, count, class_in, first_of, IsLaid}
use Rattle.partitions.specs.Refinements.{Above, here, up}
use Rattle.partition_edges.specs.declared.edges.Edge.{Edge}
use Rattle.partition_edges.specs.Edges.{AreEdges}
use Rattle.partition_refinement.specs.Rounds.{Shared, IsRefined}
use Rattle.partition_refinement.specs.RoundLaws.{Refines, RoundsAreTheRefinement, RoundsPart, PartedOffEarlier}
use Rattle.partition_refinement.proofs.Turns.{above_one, shared_now}
use Rattle.partition_edges.proofs.Agreement.{agree_map}

module _ (edges : List Edge) (shapes : List ℕ) (start p : Layout) (counts : List ℕ) (E : ℕ → ℕ → ℕ → Bool)
    (are : AreEdges (size start) edges) (is : IsRefined edges shapes start p counts)
    (refines : Refines edges shapes start E) where
  sizes : size p ≡ size start
  sizes = is.places

  edges_p : AreEdges (size p) edges
  edges_p = subst (λ n. AreEdges n edges) (sym sizes) are

  same : (r x z : ℕ) → r < length counts → x < size p → z < size p
      → (E r x z ≡ true) ↔ Shared p (slice_index counts r) x z
  same zero x z l m n =
      let e = refines.first x z (omega (arith, sizes)) (omega (arith, sizes)) in
      let s = is.rounds.first x z m n in
      (λ h. s.1 (e.0 h), λ h. e.1 (s.0 h))
  same (suc r) x z l m n =
      let before : (t u : ℕ) → t < size p → u < size p → (E r t u ≡ true)
      ↔ Shared p (slice_index counts r) t u = λ t u a b.
      same r t u (omega arith) a b in
      let e = refines.next r x z (omega (arith, sizes)) (omega (arith, sizes)) in
      let s = is.rounds.next r x z (omega arith) m n in
      let one : r + 1 ≡ suc r = add-one r in
      subst (λ k. (E k x z ≡ true) ↔ Shared p (slice_index counts k) x z) one (
        λ h. let g = e.0 h in s.1 (
          (before x z m n).0 g.0,
          (
            g.1,
            agree_map edges (size p) (λ t u. E r t u ≡ true)
                (Shared p (slice_index counts r)) x z edges_p (λ t u a b. (before t u a b).0) g.2,
          ),
        ),
        λ h. let g = s.0 h in e.1 (
          (before x z m n).1 g.0,
          g.1.0,
          agree_map edges (size p)
              (Shared p (slice_index counts r)) (λ t u. E r t u ≡ true) x z edges_p (λ t u a b. (before t u a b).1) g.1.1,
        ),
      )

  stable : (r x z : ℕ) → r + 1 ≡ length counts → x < size p → z < size p → E r x z ≡ true
      → E (r + 1) x z ≡ true
  stable r x z e m n h =
      let last : slice_index counts r ≡ count p = is.last r e in
      let shared : Shared p (slice_index counts r) x z = (same r x z (omega arith) m n).0 h in
      let now : class_in p x ≡ class_in p z = (shared_now p (slice_index counts r) x z last is.laid m n).0 shared in
      let agreed = is.stable x z m n now in
      (refines.next r x z (omega (arith, sizes)) (omega (arith, sizes))).1 (
        h,
        agreed.0,
        agree_map edges (size p) (Shared p (count p)) (λ t u. E r t u ≡ true) x z edges_p (λ t u a b s.
            (same r t u (omega arith) a b).1 (subst (λ k. Shared p k t u) (sym last) s)) agreed.1,
      )

pub rounds_are_the_refinement : RoundsAreTheRefinement
rounds_are_the_refinement edges shapes start p counts E are is refines =
    (same edges shapes start p counts E are is refines, stable edges shapes start p counts E are is refines)

-- a class has a place
member : (p : Layout) (c : ℕ) → IsLaid p → c < count p → (x : ℕ) × (x < size p) × (class_in p x ≡ c)
member p c laid l =
    let range = laid.ranges c l in
    let some = range.some in let inside = range.inside in
    let places = laid.places in
    let in_order = laid.inverse.order_below (first_of p c) (omega arith) in
    (slice_index p.order (first_of p c), omega arith, laid.alone c (first_of p c) l (omega arith) some)

above_below : (ps : List ℕ) (base c a : ℕ) → Above ps base c a → a < base
above_below ps base c a (here d l) = l
above_below ps base c a (up d e l m rest) = above_below ps base (slice_index ps d) e rest

pub rounds_part : RoundsPart
rounds_part edges shapes start p counts is r l =
    let rs = is.rounds in
    let d : ℕ = slice_index counts r in
    let later : ℕ = slice_index counts (r + 1) in
    let rises : d < later = rs.rising r l in
    let le : later ≤ count p = rs.below (r + 1) l in
    let mx = member p d is.laid (omega arith) in
    let x : ℕ = mx.0 in
    let root = rs.rooted r x (omega arith) mx.1 in
    let a : ℕ = root.0 in
    let low : a < d = above_below p.parent d (class_in p x) a root.1 in
    let mz = member p a is.laid (omega arith) in
    let z : ℕ = mz.0 in
    let at_z : Above p.parent d (class_in p z) a = subst (λ c. Above p.parent d c a) (sym mz.2) (here a low) in
    let x_later : Above p.parent later (class_in p x) d =
    subst (λ c. Above p.parent later c d) (sym mx.2) (here d rises) in
    let z_later : Above p.parent later (class_in p z) a =
    subst (λ c. Above p.parent later c a) (sym mz.2) (here a (omega arith)) in (
      x,
      z,
      mx.1,
      mz.1,
      (a, root.1, at_z),
      λ s.
          let one : s.0 ≡ d = above_one p.parent later (class_in p x) s.0 d s.1 x_later in
          let two : s.0 ≡ a = above_one p.parent later (class_in p z) s.0 a s.2 z_later in
          omega arith,
    )

parent_less : (ps : List ℕ) (base c a : ℕ) → base ≤ c → Above ps base c a → slice_index ps c < c
parent_less ps base c a l (here d m) = absurd (omega arith)
parent_less ps base c a l (up d e m n rest) = n

pub parted_off_earlier : PartedOffEarlier
parted_off_earlier edges shapes start p counts is d l m =
    let mx = member p d is.laid m in
    let root = is.rounds.rooted 0 mx.0 is.some mx.1 in
    parent_less p.parent (slice_index counts 0) d root.0 l
    (subst (λ c. Above p.parent (slice_index counts 0) c root.0) mx.2 root.1)
