use Rattle.std.proofs.Common.{[], ◌∷◌}
use Rattle.express_syntax.specs.ExpressionViews.{capitals}
use Rattle.schema_semantics.specs.Faults.{an_entity, inverted}
use Rattle.schema_names.specs.Schemas.{the_schema}
use Rattle.schema_faults.proofs.Unmet.{checks-on}
use Rattle.schema_faults.proofs.inverses.check_holder.Goals as goal

pub returns : goal.returns
returns c =
    let q = capitals c.in-Some.holder in
    rw c.in-Some.is (checks-on (the_schema c.args.names.now) (an_entity q ∷ [])
    (inverted q (capitals c.args.inverse.now.inverted) ∷ []) c.check_inverted-2.result c.in_ok-check_entity.ensures
    c.check_inverted-2.ensures)
