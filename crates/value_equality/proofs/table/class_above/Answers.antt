use Rattle.std.proofs.Common.{sym, ◌∙◌, ap, map, Some}
use Rattle.value_equality.specs.TableViews.{origin_of}
use Rattle.value_equality.proofs.Ancestors.{climbs, seen_at}
use Rattle.value_equality.proofs.table.class_above.Goals as goal

pub loop-origin-preserved : goal.loop-origin-preserved
loop-origin-preserved c =
    let found = c.in_ok-origin.ensures.lookup in
    let at = seen_at origin_of c.args.classes.now c.loop-origin.class c.in_ok-origin.field-0.now found.3.0 found.1 in
    sym (climbs (map origin_of c.args.classes.now) c.args.round c.loop-origin.class c.in-Split.parent c.in-Split.since
    (at ∙ ap (λ o. Some (origin_of o)) c.in-Split.is) c.if-since-round.false c.if-parent-class.false)
    ∙ c.loop-origin.invariant
