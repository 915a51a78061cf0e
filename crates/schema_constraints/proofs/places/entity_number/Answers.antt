use Rattle.std.proofs.Common.{sym, ◌∙◌}
use Rattle.express_syntax.specs.ExpressionViews.{capitals}
use Rattle.express_syntax.specs.Schemas.{entity}
use Rattle.schema_names.specs.Schemas.{the_schema}
use Rattle.schema_names.proofs.Numbers.{each-number}
use Rattle.schema_constraints.proofs.Placed.{is-some}
use Rattle.schema_constraints.proofs.places.entity_number.Goals as goal

pub unwrap-requires : goal.unwrap-requires
unwrap-requires c =
    let s = the_schema c.args.names.now in
    let (e, at) = c.requires in
    let (i, k) = each-number 0 s.declarations (capitals c.args.name) (entity e) at in
    is-some c.find.result i (c.find.ensures ∙ k)

pub returns : goal.returns
returns c = sym c.find.ensures ∙ c.unwrap.ensures
