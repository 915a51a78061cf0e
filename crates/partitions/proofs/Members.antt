-- The places of a class.
use Rattle.std.proofs.Common.{◌≡◌, ◌≤◌, ◌<◌, ℕ, ◌+◌, ◌-◌, List, sym, ◌∙◌, ap, length, arith}
use Rattle.std.specs.Prelude.{slice_index}
use Rattle.std.specs.List.{between}
use Rattle.std.proofs.lemmas.List.Edits.{get_or-between, length-between}
use Rattle.partitions.specs.Layouts.{Layout, count, class_in, index_in, first_of, end_of, IsLaid}
use Rattle.partitions.specs.Refinements.{AreMembers}

module _ (p : Layout) (laid : IsLaid p) (c first end : ℕ) (order run : List ℕ) (known : c < count p)
    (first_is : first ≡ first_of p c) (end_is : end ≡ end_of p c) (order_is : order ≡ p.order)
    (run_is : run ≡ between first end order) where
  fits : end ≤ length p.order
  fits =
      let inside = (laid.ranges c known).inside in let places = laid.places in let n = laid.inverse.lengths in
      omega arith

  run_length : length run ≡ end - first
  run_length = ap length run_is ∙ length-between order first end (let m = fits in omega (arith, ap length order_is))

  in_run : (k : ℕ) → k < end - first → slice_index run k ≡ slice_index p.order (first + k)
  in_run k l = ap (λ xs. slice_index xs k) run_is ∙ get_or-between order first end k 0 (omega arith)
      ∙ ap (λ o. slice_index o (first + k)) order_is

  pub members_are : AreMembers p c run
  members_are = record {
    sound = λ x a.
        let l = a.1 in let n = run_length in let m = fits in
        let places = laid.places in let lengths = laid.inverse.lengths in
        let at : slice_index p.order (first + a.0) ≡ x = sym (in_run a.0 (omega arith)) ∙ a.2 in
        let in_order = laid.inverse.order_below (first + a.0) (omega arith) in
        let is = laid.alone c (first + a.0) known (omega arith) (omega arith) in
        (omega arith, ap (class_in p) (sym at) ∙ is);
    complete = λ x l e.
        let w = laid.within x l in
        let n = run_length in
        let low = w.low in let high = w.high in
        let firsts : first_of p (class_in p x) ≡ first_of p c = ap (first_of p) e in
        let ends : end_of p (class_in p x) ≡ end_of p c = ap (end_of p) e in
        let places = laid.places in
        let at : slice_index p.order (index_in p x) ≡ x = laid.inverse.at_index x (omega arith) in
        let back : first + (index_in p x - first) ≡ index_in p x = omega arith in (
          index_in p x - first,
          omega arith,
          in_run (index_in p x - first) (omega arith) ∙ ap (slice_index p.order) back ∙ at,
        );
    once = λ j k l m e.
        let n = run_length in let f = fits in
        let places = laid.places in let lengths = laid.inverse.lengths in
        let at : slice_index p.order (first + j) ≡ slice_index p.order (first + k) =
        sym (in_run j (omega arith)) ∙ e ∙ in_run k (omega arith) in
        let same : first + j ≡ first + k =
        sym (laid.inverse.at_order (first + j) (omega arith)) ∙ ap (slice_index p.index) at
        ∙ laid.inverse.at_order (first + k) (omega arith) in
        omega arith;
  }
