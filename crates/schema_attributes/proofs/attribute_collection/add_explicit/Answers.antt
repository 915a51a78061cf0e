use Rattle.std.proofs.Common.{ℕ, ◌∙◌, sym, subst, slice_get, None}
use Rattle.std.proofs.lemmas.Result.{on_ok_weaker}
use Rattle.express_syntax.specs.Views.{explicit_of}
use Rattle.schema_names.specs.Schemas.{the_schema}
use Rattle.schema_attributes.specs.steps.Gathering.{AddsAll, SaysTogether, SaysExplicit}
use Rattle.schema_attributes.proofs.Gathered.{Saying, adds-nothing, adds-alike, with-number, without-number}
use Rattle.schema_attributes.proofs.attribute_collection.add_explicit.Goals as goal

pub add_attributes-requires-clause-known : goal.add_attributes-requires-clause-known
add_attributes-requires-clause-known c =
    c.requires.known c.in-Some.data_type (sym c.item_at.ensures ∙ c.in-Some.is)

pub returns-in-Some : goal.returns-in-Some
returns-in-Some c =
    let s = the_schema c.args.sources.now.names.now in
    let x = explicit_of c.args.explicit.now in
    let said : ℕ → Saying = λ k. SaysTogether s c.args.owner.now.entity k None x.attributes in
    on_ok_weaker c.add_attributes.result (λ h. adds-alike c.args.table.now c.add_attributes.new.table
    (said c.in-Some.data_type) (SaysExplicit s c.args.owner.now.entity c.args.owner.now.row.now c.args.n x)
    (with-number said (slice_get c.args.owner.now.row.now c.args.n) c.in-Some.data_type
    (sym c.item_at.ensures ∙ c.in-Some.is))
    (subst (λ ys. AddsAll c.args.table.now
    (SaysTogether s c.args.owner.now.entity c.in-Some.data_type None ys) c.add_attributes.new.table)
    c.as_slice.ensures h)) c.add_attributes.ensures

pub returns-in-None : goal.returns-in-None
returns-in-None c =
    let s = the_schema c.args.sources.now.names.now in
    let x = explicit_of c.args.explicit.now in
    adds-nothing c.args.table.now (SaysExplicit s c.args.owner.now.entity c.args.owner.now.row.now c.args.n x)
    (without-number (λ k. SaysTogether s c.args.owner.now.entity k None x.attributes)
    (slice_get c.args.owner.now.row.now c.args.n) (sym c.item_at.ensures ∙ c.in-None.is))
