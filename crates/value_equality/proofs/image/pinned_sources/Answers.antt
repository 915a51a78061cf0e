use Rattle.std.proofs.Common.{nat_eq, cond, Some, ◌∙◌, ap, sym}
use Rattle.std.specs.HashMap.{get}
use Rattle.value_equality.specs.Maps.{is_pinned}
use Rattle.step_values.specs.Maps.{led_by}
use Rattle.value_equality.proofs.Landing.{pinned_next, other_next}
use Rattle.value_equality.proofs.image.pinned_sources.Goals as goal
use Rattle.value_equality.proofs.image.pinned_sources.Goals.{then-contains+in_ok-insert, else-contains}

pub loop-place-preserved : goal.loop-place-preserved
loop-place-preserved c = λ y.
    elim c.if-contains.branch [
      | then-contains+in_ok-insert w ↦ rw w.sources-is
          (pinned_next (led_by c.args.map.now) c.args.p.now c.loop-place.place c.name-name.result c.name-name.ensures y
          (is_pinned c.args.pinned.now) (get nat_eq c.loop-place.sources y) (get nat_eq w.insert.new.self y)
          (sym c.contains.ensures ∙ w.if-contains.true)
          (w.in_ok-insert.ensures.updates.0 y
          ∙ ap (λ z. cond (nat_eq z y) (Some c.name-name.result) (get nat_eq c.loop-place.sources y)) w.lead.ensures)
          ∙ c.loop-place.invariant y)
      | else-contains w ↦ rw w.sources-is
          (other_next (led_by c.args.map.now) c.args.p.now c.loop-place.place c.name-name.result c.name-name.ensures y
          (is_pinned c.args.pinned.now) (get nat_eq c.loop-place.sources y)
          (sym c.contains.ensures ∙ w.if-contains.false)
          ∙ c.loop-place.invariant y)
    ]
