use Rattle.std.proofs.Common.{ℕ, ◌<◌, List, Bool, false, All, length, map, get_or, subst, sym, ap, ◌∙◌, arith}
use Rattle.std.proofs.lemmas.List.{length-map}
use Rattle.graphs.specs.Rounds.{AreMarks}
use Rattle.graphs.proofs.RowLists.{all-within}
use Rattle.graphs.proofs.Placed.{ordered-acyclic}
use Rattle.graphs.proofs.cycles.first_cyclic.Goals as goal

pub marks_on-requires : goal.marks_on-requires
marks_on-requires c =
    let long = length-map c.args.edges.now (λ v. v.items) in
    subst (λ (ys : List ℕ). All (λ y. y < length c.args.edges.now) ys) (sym c.deref.ensures.value)
    (all-within c.in_ok-order.order.items (length c.args.edges.now)
    (λ y m. (let low = c.in_ok-order.ensures.order.within y m in omega (arith, low, long))))

pub search_each-requires-clause-acyclic : goal.search_each-requires-clause-acyclic
search_each-requires-clause-acyclic c a is =
    let marks : AreMarks c.in_ok-placed.placed.items c.in_ok-order.order.items =
    subst (AreMarks c.in_ok-placed.placed.items) c.deref.ensures.value c.in_ok-placed.ensures.marks in
    ordered-acyclic (map (λ v. v.items) c.args.edges.now) c.in_ok-order.order.items c.in_ok-placed.placed.items a
    c.in_ok-order.ensures.order marks (ap (λ (ms : List Bool). get_or ms a false) (sym c.deref-2.ensures.value) ∙ is)
