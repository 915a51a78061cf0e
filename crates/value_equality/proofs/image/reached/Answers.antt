use Rattle.std.proofs.Common.{◌≤◌, nat_eq, cond, true, length, ◌∙◌, ap, sym, arith}
use Rattle.std.specs.Prelude.{◌||◌}
use Rattle.std.specs.HashSet.{contains}
use Rattle.std.proofs.Math.Bool.{or-false}
use Rattle.std.proofs.lemmas.List.{at_drop_all}
use Rattle.value_equality.specs.steps.ComputedImages.{is_reached}
use Rattle.step_values.specs.Maps.{led_by}
use Rattle.value_equality.proofs.Landing.{reached_next}
use Rattle.value_equality.proofs.image.reached.Goals as goal

pub loop-place-preserved : goal.loop-place-preserved
loop-place-preserved c = λ y.
    reached_next (led_by c.args.map.now) c.args.p.now c.loop-place.place c.name.result c.name.ensures y
    (contains nat_eq c.loop-place.reached y) (contains nat_eq c.insert.new.self y)
    (c.in_ok-insert.ensures.updates.0 y
    ∙ ap (λ z. cond (nat_eq z y) true (contains nat_eq c.loop-place.reached y)) c.lead.ensures)
    ∙ c.loop-place.invariant y

pub returns : goal.returns
returns c = λ y.
    let ended : length c.args.p.now ≤ c.loop-place.place = omega (
      arith,
      c.len-place-end.ensures.length,
      c.loop-place-test.false,
    ) in
    sym (or-false (contains nat_eq c.loop-place.reached y))
    ∙ ap (λ b. contains nat_eq c.loop-place.reached y || b)
    (sym (at_drop_all (λ rows. is_reached c.args.map.now rows y) c.args.p.now c.loop-place.place ended))
    ∙ c.loop-place.invariant y
