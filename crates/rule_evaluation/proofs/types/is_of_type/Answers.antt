use Rattle.std.proofs.Common.{ap, sym, ◌∙◌}
use Rattle.std.specs.Option.{option_map}
use Rattle.std.specs.Prelude.{Some}
use Rattle.express_logic.specs.Logic.{known}
use Rattle.express_logic.specs.Views.{datum_of, text_of}
use Rattle.conformance.specs.Expressions.{is_of_type}
use Rattle.rule_values.specs.Parts.{holding}
use Rattle.rule_evaluation.specs.steps.Contexts.{setting_in}
use Rattle.rule_evaluation.proofs.types.is_of_type.Goals as goal

pub returns-in-Instance : goal.returns-in-Instance
returns-in-Instance c m =
    let S = setting_in c.args.context.now m in
    c.known.ensures ∙ ap known (c.has_type.ensures m.meant)
    ∙ sym (ap (λ o. is_of_type S (option_map text_of o) (datum_of holding c.args.value.now)) c.in-Some.is
    ∙ ap (λ v. is_of_type S (Some (text_of c.in-Some.text)) (datum_of holding v)) c.in-Instance.is)
