use Rattle.std.proofs.Common.{◌∙◌, ◌++◌, sym, ap}
use Rattle.std.specs.Option.{option_copied}
use Rattle.step_values.specs.Values.{Values}
use Rattle.parameter_fits.specs.steps.Pushing.{listed}
use Rattle.typed_populations.specs.ValueOrder.{picked, row_picked}
use Rattle.typed_populations.proofs.Copied.{pushes_none, row_closed}
use Rattle.typed_populations.proofs.plain_rows.push_row.Goals as goal
use Rattle.typed_populations.proofs.plain_rows.push_row.Goals.{in-Some+in_ok-push_all_picked, in_default}

pub returns : goal.returns
returns c =
    let old = c.args.builder.now in
    let vs = c.args.values.now in
    let made = row_closed old c.match-order.builder c.close_row.new.self (row_picked (option_copied c.args.order) vs)
    c.requires.whole in
    elim c.match-order.branch [
      | in-Some+in_ok-push_all_picked w ↦
          made
          (w.builder-is ∙ w.in_ok-push_all_picked.ensures
          ∙ ap (λ (us : Values). record old { pending = old.pending ++ listed us })
          (ap (picked vs) w.deref.ensures.value ∙ ap (λ o. row_picked (option_copied o) vs) (sym w.in-Some.is)))
          c.close_row.result c.close_row.ensures
      | in_default w ↦
          made
          (w.builder-is ∙ pushes_none old
          ∙ ap (λ (us : Values). record old { pending = old.pending ++ listed us })
          (ap (λ o. row_picked (option_copied o) vs) (sym w.in_default.is)))
          c.close_row.result c.close_row.ensures
    ]
