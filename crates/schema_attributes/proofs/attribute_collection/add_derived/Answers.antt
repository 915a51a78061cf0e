use Rattle.std.proofs.Common.{◌∙◌, ℕ, ◌+◌, Some, ap, subst, slice_get}
use Rattle.std.proofs.lemmas.Result.{on_ok_weaker}
use Rattle.express_syntax.specs.Views.{attribute_of}
use Rattle.schema_attributes.specs.declared.attribute_collection.Class.TheVariants as classes
use Rattle.schema_names.specs.Schemas.{the_schema}
use Rattle.schema_attributes.specs.steps.Gathering.{AddsAll, SaysOne}
use Rattle.schema_attributes.proofs.attribute_collection.add_derived.Goals as goal

pub returns : goal.returns
returns c =
    let s = the_schema c.args.sources.now.names.now in
    let i = c.args.owner.now.entity in
    let y = attribute_of c.args.derived.now.attribute in
    let row = c.args.owner.now.row.now in
    let old = c.args.table.now in
    let new = c.add_one.new.table in
    let at = c.item_at.ensures ∙ ap (slice_get row) c.in_ok-place.ensures in
    on_ok_weaker c.add_one.result (λ h.
    subst (λ o. AddsAll old (SaysOne s classes.Derived i o (Some (c.args.owner.now.count + c.args.n)) y) new) at
    (subst (λ (m : ℕ). AddsAll old (SaysOne s classes.Derived i c.item_at.result (Some m) y) new)
    c.in_ok-derivation.ensures h)) c.add_one.ensures
