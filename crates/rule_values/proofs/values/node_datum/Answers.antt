use Rattle.std.proofs.Common.{◌∙◌, ap, sym}
use Rattle.step_values.specs.steps.Slots.{node_value}
use Rattle.rule_values.specs.TableValues.{coded_datum}
use Rattle.rule_values.proofs.values.node_datum.Goals as goal

pub returns-in-Typed : goal.returns-in-Typed
returns-in-Typed c =
    c.typed.ensures c.args.base.now
    ∙ ap (λ n. coded_datum c.args.types.now c.args.base.now (node_value n)) (sym c.in-Typed.is)
