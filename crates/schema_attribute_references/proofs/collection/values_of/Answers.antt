use Rattle.std.proofs.Common.{◌<◌, ◌↔◌, length, arith, get_or, None, subst}
use Rattle.std.proofs.lemmas.List.{take_all, get_or_default}
use Rattle.schema_semantics.specs.Shapes.{Atom}
use Rattle.schema_names.specs.Schemas.{the_schema}
use Rattle.schema_names.proofs.Edges.{within}
use Rattle.schema_data_types.specs.NumberedTypes.{all_data_types}
use Rattle.schema_data_types.specs.steps.Values.{Holds}
use Rattle.schema_attribute_references.specs.steps.Gathering.{IsOfOne}
use Rattle.schema_attribute_references.proofs.Filtering.{among-at}
use Rattle.schema_attribute_references.proofs.Gathered.{values-more}
use Rattle.schema_attribute_references.proofs.collection.values_of.Goals as goal

pub add_values-requires-clause-within : goal.add_values-requires-clause-within
add_values-requires-clause-within c =
    let s = the_schema c.args.tables.now.names.now in
    let at = c.loop-declaration.declaration-index in
    let lt : at < length c.args.declarations.now = omega (arith, c.loop-declaration-test.true) in
    let x = get_or c.args.declarations.now at (record { entity = 0; data_type = 0; derivation = None }) in
    let (k, gives) = c.requires.typed x (among-at c.args.declarations.now at _ lt) in
    within (all_data_types s) x.data_type k gives

pub loop-declaration-preserved : goal.loop-declaration-preserved
loop-declaration-preserved c =
    let s = the_schema c.args.tables.now.names.now in
    let xs = c.args.declarations.now in
    let at = c.loop-declaration.declaration-index in
    let lt : at < length xs = omega (arith, c.loop-declaration-test.true) in
    let x = get_or xs at (record { entity = 0; data_type = 0; derivation = None }) in
    let (k, gives) = c.requires.typed x (among-at xs at _ lt) in
    values-more s xs at x k c.loop-declaration.atoms.items c.add_values.new.atoms.items lt
    (get_or_default xs at _ x lt) gives c.loop-declaration.invariant (c.in_ok-add_values.ensures k gives)

pub returns : goal.returns
returns c =
    let s = the_schema c.args.tables.now.names.now in
    subst (λ xs. (a : Atom) → Holds s c.loop-declaration.atoms.items a ↔ IsOfOne s xs a)
    (take_all c.loop-declaration.declaration-index c.args.declarations.now c.loop-declaration-test.false)
    c.loop-declaration.invariant
