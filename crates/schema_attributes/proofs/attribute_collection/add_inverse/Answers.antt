use Rattle.std.proofs.Common.{◌∙◌, None, ap, subst, slice_get}
use Rattle.std.proofs.lemmas.Result.{on_ok_weaker}
use Rattle.express_syntax.specs.Views.{attribute_of}
use Rattle.schema_attributes.specs.declared.attribute_collection.Class.TheVariants as classes
use Rattle.schema_names.specs.Schemas.{the_schema}
use Rattle.schema_attributes.specs.steps.Gathering.{AddsAll, SaysOne}
use Rattle.schema_attributes.proofs.attribute_collection.add_inverse.Goals as goal

pub add_one-requires-clause-known : goal.add_one-requires-clause-known
add_one-requires-clause-known c t = tt

pub returns : goal.returns
returns c =
    let s = the_schema c.args.sources.now.names.now in
    let y = attribute_of c.args.inverse.now.attribute in
    let at = c.item_at.ensures ∙ ap (slice_get c.args.owner.now.row.now) c.in_ok-place.ensures in
    on_ok_weaker c.add_one.result (λ h.
    subst (λ o. AddsAll c.args.table.now (SaysOne s classes.Inverse c.args.owner.now.entity o None y)
    c.add_one.new.table) at h) c.add_one.ensures
