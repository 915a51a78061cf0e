use Rattle.std.proofs.Common.{◌≡◌, ap, sym, ◌∙◌}
use Rattle.std.specs.Prelude.{Some}
use Rattle.std.specs.Option.{option_map}
use Rattle.std.proofs.lemmas.Result.{on_ok_weaker}
use Rattle.schema_derived_attributes.specs.Formulas.{formula_seen}
use Rattle.rule_evaluation.specs.steps.Worths.{formula_worth}
use Rattle.rule_evaluation.proofs.values.keep_wanted.Goals as goal

pub returns-in-Ok : goal.returns-in-Ok
returns-in-Ok c =
    let S = c.args.setting.now in
    let y = c.args.wanted.instance in
    on_ok_weaker c.keep.result
    (λ h m right. h S m right (λ number f is.
    let one : Some (formula_seen c.in-Some.formula) ≡ Some f = c.in-Some.ensures.meant m number ∙ is in
    let same : formula_seen c.in-Some.formula ≡ f = cc in
    c.in-Ok.ensures m right ∙ ap (formula_worth S m y) same))
    c.keep.ensures
