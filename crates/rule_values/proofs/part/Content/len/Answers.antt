use Rattle.std.proofs.Common.{◌∙◌, ap, sym}
use Rattle.express_logic.specs.Holdings.{size_of}
use Rattle.rule_values.specs.TableValues.{element_base}
use Rattle.rule_values.specs.Parts.{content_elements}
use Rattle.rule_values.proofs.Elements.{size-coded}
use Rattle.rule_values.proofs.part.Content.len.Goals as goal

pub returns-in-Values : goal.returns-in-Values
returns-in-Values c =
    c.len.ensures ∙ sym (size-coded c.in-Values.types.now (element_base c.in-Values.types.now c.in-Values.base.now) c.in-Values.values)
    ∙ ap (λ x. size_of (content_elements x)) (sym c.in-Values.is)
