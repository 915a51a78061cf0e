use Rattle.std.proofs.Common.{rules}
use Rattle.express_syntax.specs.Views.{bound_of}
use Rattle.schema_constraints.proofs.Bounded.{bound-is}
use Rattle.schema_constraints.proofs.inverse_collections.value_of.Goals as goal

pub returns : goal.returns
returns c d are =
    let b = bound_of c.args.bound.now in
    bound-is b c.value.result (d.bound b) (λ n e. search rules) c.value.ensures (are b)
