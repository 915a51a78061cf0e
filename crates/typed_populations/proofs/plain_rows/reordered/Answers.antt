use Rattle.std.proofs.Common.{◌∙◌, sym, subst}
use Rattle.std.specs.Bool.{OnTrue}
use Rattle.step_values.specs.steps.Targets.{ReferTo}
use Rattle.typed_populations.specs.ValueOrder.{AllCanMove}
use Rattle.typed_populations.proofs.Moved.{rows-refer}
use Rattle.typed_populations.proofs.plain_rows.reordered.Goals as goal

pub all_can_move-requires : goal.all_can_move-requires
all_can_move-requires c = c.requires.forms ∙ sym c.requires.each

pub reorder_rows-requires-clause-each : goal.reorder_rows-requires-clause-each
reorder_rows-requires-clause-each c = c.requires.forms ∙ sym c.requires.each

pub reorder_rows-requires-clause-fits : goal.reorder_rows-requires-clause-fits
reorder_rows-requires-clause-fits c =
    subst (λ b. OnTrue b (AllCanMove c.args.orders.now c.args.rows.now.form_of.items c.args.values.rows))
    c.if-not-all_can_move.false c.all_can_move.ensures

pub returns-clause-leads : goal.returns-clause-leads
returns-clause-leads c = c.in_ok-reorder_rows.ensures.targets c.args.names.now c.requires.leads

pub returns-clause-refers : goal.returns-clause-refers
returns-clause-refers c =
    subst (ReferTo c.args.names.now) (sym c.in_ok-reorder_rows.ensures.rows)
    (rows-refer c.args.names.now c.args.orders.now c.args.rows.now.form_of.items c.args.values.rows c.requires.all)
