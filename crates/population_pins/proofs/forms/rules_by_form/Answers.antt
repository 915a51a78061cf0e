use Rattle.std.proofs.lemmas.Option.{slice_get-get_or}
use Rattle.std.proofs.Common.{◌∙◌, ap, sym, Some}
use Rattle.population_pins.specs.steps.Forms.{IsFormRules}
use Rattle.population_pins.proofs.Formed.{zip-more}
use Rattle.population_pins.proofs.forms.rules_by_form.Goals as goal

pub loop-form-preserved : goal.loop-form-preserved
loop-form-preserved c = record {
  rows = zip-more (IsFormRules c.args.sources.now) c.args.forms.now c.loop-form.form-index c.form-item.result
      c.loop-form.rows.items _ c.in_ok-rules_of.field-0
      (slice_get-get_or c.args.forms.now c.loop-form.form-index c.form-item.result c.loop-form-test.true
      ∙ ap Some (sym c.form-item.is))
      c.loop-form.invariant.rows c.in_ok-rules_of.ensures.rules c.in_ok-push.ensures.items;
  clear = c.in_ok-rules_of.ensures.clear;
}
