-- Pairs part no group exactly where there are as many groups afterwards.
use Rattle.std.proofs.Common.{◌≡◌, ◌<◌, ℕ, Bool, sym, ◌∙◌, inl, inr, eqb-true, eq-eqb, arith, List}
use Rattle.std.specs.Prelude.{◌==◌, slice_index}
use Rattle.std.proofs.lemmas.Bool.{cases_lt}
use Rattle.partitions.specs.declared.pairs.Pair.{Pair}
use Rattle.partitions.specs.Layouts.{Layout, size, count, class_in, first_of, IsLaid}
use Rattle.partitions.specs.Refinements.{IsPartedByPairs}
use Rattle.split_checks.specs.steps.ComputedWalk.{IsTried, StayWhole}

-- no class is empty
place_in : (p : Layout) (c : ℕ) → IsLaid p → c < count p → (x : ℕ) × (x < size p) × (class_in p x ≡ c)
place_in p c laid l =
    let range = laid.ranges c l in
    let some = range.some in
    let high = range.high in
    let inside = range.inside in
    let places = laid.places in
    let below = laid.inverse.order_below (first_of p c) (omega (arith, some, inside, places)) in (
      slice_index p.order (first_of p c),
      omega (arith, below, places),
      laid.alone c (first_of p c) l (omega arith) some,
    )

module _ (p q : Layout) (ps : List Pair) (laid : IsLaid p) (parted : IsPartedByPairs p q ps) where
  same_class : count q ≡ count p → (x : ℕ) → x < size p → class_in q x ≡ class_in p x
  same_class e x l =
      let places = parted.finer.places in
      let known = (parted.laid.within x (omega (arith, l, places))).known in
      parted.finer.kept x l (omega (arith, known, e))

  whole : count q ≡ count p → StayWhole ps p
  whole e x z l m one =
      ((parted.parts x z l m).0 (same_class e x l ∙ one ∙ sym (same_class e z m))).1

  as_many : StayWhole ps p → count q ≡ count p
  as_many stay =
      let more = parted.finer.more in
      let places = parted.finer.places in
      elim (cases_lt (count p) (count q)) [
        | inl grown ↦
            let x = place_in q (count p) parted.laid grown in
            let x_in = x.1 in
            let x_there : x.0 < size p = omega (arith, x_in, places) in
            let known = (laid.within x.0 x_there).known in
            let z = place_in q (class_in p x.0) parted.laid (omega (arith, known, grown)) in
            let z_in = z.1 in
            let z_is = z.2 in
            let z_there : z.0 < size p = omega (arith, z_in, places) in
            let kept : class_in q z.0 ≡ class_in p z.0 = parted.finer.kept z.0 z_there (omega (arith, z_is, known)) in
            let one : class_in p x.0 ≡ class_in p z.0 = sym z_is ∙ kept in
            let same : class_in q x.0 ≡ class_in q z.0 = (parted.parts x.0 z.0 x_there z_there).1
            (one, stay x.0 z.0 x_there z_there one) in
            let x_is = x.2 in
            absurd (omega (arith, same, x_is, z_is, known))
        | inr few ↦ omega (arith, few, more)
      ]

  pub tried : (b : Bool) → b ≡ (count q == count p) → IsTried ps p q b
  tried b is = record {
    settled = record { laid = parted.laid; settled = parted.settled; places = parted.finer.places };
    right = (
      λ e. whole (eqb-true (count q) (count p) (sym is ∙ e)),
      λ stay. is ∙ eq-eqb (count q) (count p) (as_many stay),
    );
    same = λ e x z l m.
        let counts = eqb-true (count q) (count p) (sym is ∙ e) in (
          λ one. sym (same_class counts x l) ∙ one ∙ same_class counts z m,
          λ one. same_class counts x l ∙ one ∙ sym (same_class counts z m),
        );
  }
