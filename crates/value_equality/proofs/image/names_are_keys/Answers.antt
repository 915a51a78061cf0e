use Rattle.std.proofs.Common.{sym, ◌∙◌}
use Rattle.value_equality.specs.Maps.{is_key}
use Rattle.value_equality.proofs.Lookup.{names_stop, names_next}
use Rattle.value_equality.proofs.image.names_are_keys.Goals as goal

pub returns-then-not-contains_key : goal.returns-then-not-contains_key
returns-then-not-contains_key c =
    sym (names_stop (is_key c.args.map.now) c.args.p.now c.loop-place.place c.name.result c.name.ensures
    (sym c.contains_key.ensures ∙ c.if-not-contains_key.true)) ∙ c.loop-place.invariant

pub loop-place-preserved : goal.loop-place-preserved
loop-place-preserved c =
    sym (names_next (is_key c.args.map.now) c.args.p.now c.loop-place.place c.name.result c.name.ensures
    (sym c.contains_key.ensures ∙ c.if-not-contains_key.false)) ∙ c.loop-place.invariant
