use Rattle.std.proofs.Common.{rules, ◌∙◌, ap, sym}
use Rattle.express_syntax.specs.Schemas.{width}
use Rattle.express_syntax.specs.Views.{width_of}
use Rattle.conformance.specs.Bases.{IsWidth}
use Rattle.schema_underlying_types.specs.steps.Measures.{width_in}
use Rattle.schema_underlying_types.proofs.Whole.{width-is, checked-of}
use Rattle.schema_underlying_types.proofs.measures.most_of.Goals as goal

pub returns-in-Value : goal.returns-in-Value
returns-in-Value c =
    let w = width c.in-Value.digits.text.now in
    width-is w c.whole.result (checked-of (IsWidth w) c.whole.result (λ n e. search rules) c.whole.ensures)
    ∙ ap (λ x. width_in (width_of x)) (sym c.in-Value.is)
