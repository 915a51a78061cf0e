use Rattle.std.proofs.Common.{sym, ◌∙◌, ◌≡◌, length, vec_len, arith}
use Rattle.express_syntax.specs.ExpressionViews.{tree_of}
use Rattle.express_expressions.proofs.Levels.{conjoined_more, not_empty}
use Rattle.express_expressions.proofs.Readings.{built_same}
use Rattle.express_expressions.proofs.boxes.conjoined.Goals as goal

pub returns : goal.returns
returns c =
    built_same _ _ _ c.boxed.result (c.conjunction.ensures
    ∙ sym (conjoined_more (tree_of c.args.first.value) c.args.others.items (λ (e : length c.args.others.items ≡ 0).
    not_empty (vec_len c.args.others) c.is_empty.result c.is_empty.ensures c.if-is_empty.false
    (omega (arith, c.args.others.ok.0))))) c.boxed.ensures
