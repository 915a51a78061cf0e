use Rattle.std.proofs.Common.{ℕ, Bool, nat_eq, sym, ◌∙◌}
use Rattle.std.specs.HashMap.{get}
use Rattle.step_values.specs.Maps.{led_by}
use Rattle.value_equality.specs.steps.ComputedImages.{is_source}
use Rattle.value_equality.proofs.Lookup.{names_stop, names_next}
use Rattle.value_equality.proofs.image.are_sources.Goals as goal

pub returns-then-not-is_source : goal.returns-then-not-is_source
returns-then-not-is_source c =
    let test : ℕ → Bool = λ x. is_source (get nat_eq c.args.sources.now (led_by c.args.map.now x)) x in
    sym (names_stop test c.args.p.now c.loop-place.place c.name.result c.name.ensures
    (sym c.is_source.ensures ∙ c.if-not-is_source.true)) ∙ c.loop-place.invariant

pub loop-place-preserved : goal.loop-place-preserved
loop-place-preserved c =
    let test : ℕ → Bool = λ x. is_source (get nat_eq c.args.sources.now (led_by c.args.map.now x)) x in
    sym (names_next test c.args.p.now c.loop-place.place c.name.result c.name.ensures
    (sym c.is_source.ensures ∙ c.if-not-is_source.false)) ∙ c.loop-place.invariant
