use Rattle.std.proofs.Common.{◌∙◌, ap, sym, subst, List, ℕ}
use Rattle.graphs.specs.Graphs.{graph_of, next}
use Rattle.express_syntax.specs.ExpressionViews.{capitals}
use Rattle.schema_names.specs.Schemas.{the_schema}
use Rattle.schema_explicit_attributes.specs.declared.own_attributes.Meant.TheVariants.{All}
use Rattle.schema_explicit_attributes.specs.steps.Owned.{declares_at}
use Rattle.schema_attribute_sources.specs.steps.Declaring.{AreDeclaring}
use Rattle.schema_attribute_sources.specs.declared.declaring_entity.Declarer.TheVariants.{One}
use Rattle.schema_attribute_sources.proofs.Membership.{inherits-none, inherits-one, inherits-elsewhere}
use Rattle.schema_attribute_sources.proofs.group_references.inherited.Goals as goal

pub returns-in_default : goal.returns-in_default
returns-in_default c e k free =
    let s = the_schema c.args.schema.now.names in
    let a = capitals c.args.name in
    let above = graph_of c.args.schema.now.above.items in
    let row = c.row_of-row.ensures ∙ ap (λ rows. next (graph_of rows) c.args.entity) c.deref.ensures.value in
    inherits-none s above c.requires.made.above a e c.args.entity k free c.args.types.now c.declaring.result
    (subst (λ (xs : List ℕ). AreDeclaring (declares_at s All a) xs c.declaring.result) row c.declaring.ensures)
    c.in_default.not-One

pub returns-then-not-is_among : goal.returns-then-not-is_among
returns-then-not-is_among c e k free =
    let s = the_schema c.args.schema.now.names in
    let a = capitals c.args.name in
    let above = graph_of c.args.schema.now.above.items in
    let row = c.row_of-row.ensures ∙ ap (λ rows. next (graph_of rows) c.args.entity) c.deref.ensures.value in
    inherits-elsewhere s above c.requires.made.above a e c.args.entity k free c.args.types.now c.in-One.declaring
    (subst (λ (xs : List ℕ). AreDeclaring (declares_at s All a) xs (One c.in-One.declaring)) row c.in-One.ensures)
    c.requires.types (sym c.is_among.ensures ∙ c.if-not-is_among.true)

pub returns : goal.returns
returns c e k free =
    let s = the_schema c.args.schema.now.names in
    let a = capitals c.args.name in
    let above = graph_of c.args.schema.now.above.items in
    let row = c.row_of-row.ensures ∙ ap (λ rows. next (graph_of rows) c.args.entity) c.deref.ensures.value in
    inherits-one s above c.requires.made.above a e c.args.entity k free c.args.types.now c.in-One.declaring
    (subst (λ (xs : List ℕ). AreDeclaring (declares_at s All a) xs (One c.in-One.declaring)) row c.in-One.ensures)
    (sym c.is_among.ensures ∙ c.if-not-is_among.false)
