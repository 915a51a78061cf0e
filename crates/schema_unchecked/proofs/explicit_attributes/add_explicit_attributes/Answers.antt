use Rattle.std.proofs.Common.{◌<◌, length, arith, map, ap, sym, subst, OnOk}
use Rattle.std.proofs.lemmas.List.{length-map}
use Rattle.graphs.specs.Graphs.{graph_of}
use Rattle.graphs.proofs.RowLists.{row-is}
use Rattle.express_syntax.specs.ExpressionViews.{capitals}
use Rattle.express_syntax.specs.Schemas.{entity}
use Rattle.express_syntax.specs.Views.{entity_of, explicit_of}
use Rattle.schema_semantics.specs.Parts.{for_each, parts_of_explicit}
use Rattle.schema_data_types.specs.NumberedTypes.{whole_types, all_data_types}
use Rattle.schema_attribute_references.specs.steps.Taking.{schema_in}
use Rattle.schema_unchecked_declarations.specs.UncheckedLists.{Adds, unchecked_in}
use Rattle.schema_unchecked.specs.steps.Places.{AreDataTypesAt}
use Rattle.schema_unchecked.proofs.Reshaped.{rows-within, data-types-here}
use Rattle.schema_unchecked.proofs.explicit_attributes.add_explicit_attributes.Goals as goal

pub index-row-requires : goal.index-row-requires
index-row-requires c =
    let s = schema_in c.args.findings.now.known in
    let rows = c.args.findings.now.known.tables.data_types.now.rows.items in
    let lt =
    rows-within whole_types (all_data_types s) s.declarations (graph_of rows) c.args.number
    (entity (entity_of c.args.entity.now)) c.requires.found.known.tables.rows c.requires.at in
    let long = length-map rows (λ v. v.items) in
    omega (arith, lt, long)

pub add_explicits-requires-clause-row : goal.add_explicits-requires-clause-row
add_explicits-requires-clause-row c =
    let s = schema_in c.args.findings.now.known in
    let rows = c.args.findings.now.known.tables.data_types.now.rows.items in
    let e = entity_of c.args.entity.now in
    let lt =
    rows-within whole_types (all_data_types s) s.declarations (graph_of rows) c.args.number (entity e)
    c.requires.found.known.tables.rows c.requires.at in
    let long = length-map rows (λ v. v.items) in
    let within : c.args.number < length rows = omega (arith, lt, long) in
    let row =
    row-is (λ v. v.items) rows c.args.number c.index-row.result.now c.deref-2.result.now within c.index-row.ensures
    c.deref-2.ensures.value in
    subst (AreDataTypesAt s c.deref-2.result.now)
    (ap (map explicit_of) (sym c.deref.ensures.value))
    (subst (λ r. AreDataTypesAt s r e.explicits) (sym row)
    (data-types-here s c.requires.found.known.resolved c.data_types_are_known.ensures (graph_of rows)
    c.requires.found.known.tables.rows c.args.number e c.requires.at))

pub returns : goal.returns
returns c =
    subst (λ xs. OnOk c.add_explicits.result (Adds
    (for_each (parts_of_explicit (schema_in c.args.findings.now.known) (capitals c.args.entity.now.name)) (map explicit_of xs))
    (unchecked_in c.args.list.now.items) (unchecked_in c.add_explicits.new.list.items))) c.deref.ensures.value
    c.add_explicits.ensures
