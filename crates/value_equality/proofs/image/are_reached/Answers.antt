use Rattle.std.proofs.Common.{nat_eq, sym, ◌∙◌}
use Rattle.std.specs.HashSet.{contains}
use Rattle.value_equality.proofs.Lookup.{names_stop, names_next}
use Rattle.value_equality.proofs.image.are_reached.Goals as goal

pub returns-then-not-contains : goal.returns-then-not-contains
returns-then-not-contains c =
    sym (names_stop (contains nat_eq c.args.reached.now) c.args.q.now c.loop-place.place c.name.result c.name.ensures
    (sym c.contains.ensures ∙ c.if-not-contains.true)) ∙ c.loop-place.invariant

pub loop-place-preserved : goal.loop-place-preserved
loop-place-preserved c =
    sym (names_next (contains nat_eq c.args.reached.now) c.args.q.now c.loop-place.place c.name.result c.name.ensures
    (sym c.contains.ensures ∙ c.if-not-contains.false)) ∙ c.loop-place.invariant
