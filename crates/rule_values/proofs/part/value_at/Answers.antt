use Rattle.std.proofs.Common.{◌∙◌, ap, sym}
use Rattle.std.specs.Option.{option_map}
use Rattle.rule_values.specs.TableValues.{coded_datum}
use Rattle.rule_values.specs.Parts.{or_indeterminate, element_datum}
use Rattle.rule_values.proofs.Elements.{nth-coded}
use Rattle.rule_values.proofs.part.value_at.Goals as goal

pub returns-in-Some : goal.returns-in-Some
unfolding element_datum
returns-in-Some c =
    ap (λ o. or_indeterminate (option_map (coded_datum c.args.types.now c.args.base.now) o)) c.in-Some.ensures
    ∙ ap or_indeterminate (sym (nth-coded c.args.types.now c.args.base.now c.args.values.now c.args.index))

pub returns-in-None : goal.returns-in-None
unfolding element_datum
returns-in-None c =
    ap (λ o. or_indeterminate (option_map (coded_datum c.args.types.now c.args.base.now) o)) c.in-None.ensures
    ∙ ap or_indeterminate (sym (nth-coded c.args.types.now c.args.base.now c.args.values.now c.args.index))
