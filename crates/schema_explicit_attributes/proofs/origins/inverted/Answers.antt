use Rattle.std.proofs.Common.{◌∙◌, ap}
use Rattle.std.specs.List.{find}
use Rattle.graphs.specs.Graphs.{graph_of}
use Rattle.graphs.proofs.RowLists.{row-is}
use Rattle.express_syntax.specs.ExpressionViews.{capitals}
use Rattle.schema_names.specs.Schemas.{the_schema}
use Rattle.schema_explicit_attributes.specs.declared.own_attributes.Meant.TheVariants.{Explicit}
use Rattle.schema_explicit_attributes.specs.steps.Owned.{declares_at}
use Rattle.schema_explicit_attributes.proofs.Nearest.{nearest-is}
use Rattle.schema_explicit_attributes.proofs.origins.inverted.Goals as goal

pub returns : goal.returns
returns c q ent number =
    let s = the_schema c.args.names.now in
    let a = capitals c.args.attribute in
    let row = row-is (λ v. v.items) c.args.lines.now c.args.entity c.index-lines-entity.result c.deref.result.now
    c.requires.within c.index-lines-entity.is c.deref.ensures.value in
    nearest-is s Explicit a (graph_of c.args.lines.now) c.requires.lines q c.args.entity ent number c.nearest.result
    (c.nearest.ensures ∙ ap (find (declares_at s Explicit a)) row)
