use Rattle.std.proofs.Common.{◌∙◌, ap, sym, Some, None}
use Rattle.rule_sources.specs.Sources.{form_source}
use Rattle.rule_sources.proofs.Positions.{position-told, other-kept}
use Rattle.rule_sources.proofs.sources.form_source.Goals as goal

pub returns-in_default : goal.returns-in_default
returns-in_default c form are = other-kept form.slots.items c.args.source c.in_default.not-Explicit

pub returns-in-Some : goal.returns-in-Some
returns-in-Some c form are =
    position-told form.slots.items c.args.positions.now c.in-Explicit.place (Some c.in-Some.position) are
    c.in-Some.ensures
    ∙ ap (form_source form.slots.items) (sym c.in-Explicit.is)

pub returns-in-None : goal.returns-in-None
returns-in-None c form are =
    position-told form.slots.items c.args.positions.now c.in-Explicit.place None are c.in-None.ensures
    ∙ ap (form_source form.slots.items) (sym c.in-Explicit.is)
