use Rattle.std.proofs.Common.{rules}
use Rattle.express_syntax.specs.Clauses.{IsInteger}
use Rattle.express_syntax.specs.Views.{bound_of}
use Rattle.schema_underlying_types.proofs.Whole.{bound-is, checked-of}
use Rattle.schema_underlying_types.proofs.measures.value_of.Goals as goal

pub returns : goal.returns
returns c =
    let b = bound_of c.args.bound.now in
    bound-is b c.value.result (checked-of (IsInteger b) c.value.result (λ n e. search rules) c.value.ensures)
