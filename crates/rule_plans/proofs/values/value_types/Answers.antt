use Rattle.std.proofs.Common.{◌∙◌, ap, sym}
use Rattle.rule_plans.specs.steps.Unsought.{says_form}
use Rattle.rule_plans.proofs.Forms.{no-value-there}
use Rattle.rule_plans.proofs.values.value_types.Goals as goal

pub returns-then-says_form : goal.returns-then-says_form
returns-then-says_form c m x at t p agrees covers none =
    let instance = c.instance-instance.result in
    no-value-there c.args.setting.now c.requires.setting m c.args.wanted.now c.args.row instance c.instance-instance.ensures
    (c.requires.forms instance.form
    (sym (c.says_form.ensures ∙ ap (λ l. says_form l instance.form) c.deref.ensures.value) ∙ c.if-says_form.true)) x
    at t p agrees covers
