use Rattle.std.proofs.Common.{◌≡◌, ◌∙◌, ◌+◌, arith, ap, sym, subst, length}
use Rattle.std.proofs.lemmas.List.{length-map}
use Rattle.std.proofs.lemmas.Result.{on_ok_weaker}
use Rattle.graphs.specs.Graphs.{graph_of, next}
use Rattle.express_syntax.specs.Views.{declaration_of, entity_of, explicit_of}
use Rattle.schema_names.specs.Numbers.{IsAt}
use Rattle.schema_names.specs.Schemas.{the_schema}
use Rattle.schema_attributes.specs.steps.Gathering.{AddsAll, AreKnownFrom, rows_in, SaysDeclaration, SaysEntity}
use Rattle.schema_attributes.proofs.Gathered.{adds-nothing}
use Rattle.schema_attributes.proofs.Rows.{known-from, only-entities}
use Rattle.schema_attributes.proofs.attribute_collection.add_declaration.Goals as goal

pub add_entity-requires-clause-known : goal.add_entity-requires-clause-known
add_entity-requires-clause-known c =
    let s = the_schema c.args.sources.now.names.now in
    let e = entity_of c.in-Entity.entity in
    let at = subst (λ d. IsAt s c.args.i (declaration_of d)) c.in-Entity.is c.requires.at in
    let many = length-map c.in-Entity.entity.explicits.items explicit_of in
    subst (λ m. AreKnownFrom s m c.row_of-row.result.now) many
    (subst (AreKnownFrom s (length e.explicits))
    (sym (c.row_of-row.ensures ∙ ap (λ v. next (graph_of v) c.args.i) c.deref.ensures.value))
    (known-from s c.data_types_are_known.ensures c.requires.sources.resolved (rows_in c.args.sources.now) c.requires.sources.rows c.args.i e at))

pub returns-in_ok-number-in-Entity : goal.returns-in_ok-number-in-Entity
returns-in_ok-number-in-Entity c =
    let s = the_schema c.args.sources.now.names.now in
    let rows = rows_in c.args.sources.now in
    let old = c.args.table.now in
    let new = c.add_entity.new.table in
    let e = entity_of c.in-Entity.entity in
    let none : 0 + c.args.i ≡ c.args.i = omega arith in
    on_ok_weaker c.add_entity.result (λ h.
    subst (λ d. AddsAll old (SaysDeclaration s c.args.i (next rows c.args.i) c.args.count (declaration_of d)) new)
    (sym c.in-Entity.is)
    (subst (λ i. AddsAll old (SaysEntity s i (next rows c.args.i) c.args.count e) new) (c.in_ok-number-in-Entity.ensures ∙ none)
    (subst (λ row. AddsAll old (SaysEntity s c.in_ok-number-in-Entity.number row c.args.count e) new)
    (c.row_of-row.ensures ∙ ap (λ v. next (graph_of v) c.args.i) c.deref.ensures.value) h))) c.add_entity.ensures

pub returns-in_default : goal.returns-in_default
returns-in_default c =
    let s = the_schema c.args.sources.now.names.now in
    adds-nothing c.args.table.now
    (SaysDeclaration s c.args.i (next (rows_in c.args.sources.now) c.args.i) c.args.count
    (declaration_of c.args.declaration.now))
    (only-entities s c.args.i (next (rows_in c.args.sources.now) c.args.i) c.args.count c.args.declaration.now
    c.in_default.not-Entity)
