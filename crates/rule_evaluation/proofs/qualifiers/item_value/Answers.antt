use Rattle.std.proofs.Common.{ap, sym, ◌∙◌}
use Rattle.std.specs.Prelude.{if◌then◌else◌}
use Rattle.express_syntax.specs.ExpressionViews.{capitals}
use Rattle.express_logic.specs.Data.{element, indeterminate}
use Rattle.rule_evaluation.proofs.qualifiers.item_value.Goals as goal

pub returns-then-is_item : goal.returns-then-is_item
returns-then-is_item c m =
    ap (λ b. if b then element (capitals c.args.name) else indeterminate) (sym c.if-is_item.true ∙ c.is_item.ensures m.meant)

pub returns-else-is_item : goal.returns-else-is_item
returns-else-is_item c m =
    ap (λ b. if b then element (capitals c.args.name) else indeterminate) (sym c.if-is_item.false ∙ c.is_item.ensures m.meant)
