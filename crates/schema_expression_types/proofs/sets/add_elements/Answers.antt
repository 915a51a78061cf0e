use Rattle.std.proofs.Common.{◌<◌, ◌≤◌, length, arith, ap}
use Rattle.std.proofs.lemmas.List.{length-map}
use Rattle.std.proofs.lemmas.Result.{on_ok_weaker}
use Rattle.schema_semantics.specs.Shapes.{IsOf}
use Rattle.schema_semantics.specs.Sets.{Elements}
use Rattle.schema_data_types.specs.declared.values.Atom.TheVariants as atoms
use Rattle.schema_names.specs.Schemas.{the_schema}
use Rattle.schema_data_types.specs.NumberedTypes.{form_in, all_data_types}
use Rattle.schema_data_types.specs.steps.Values.{IsMeant}
use Rattle.schema_data_types.proofs.Sets.{adds-alike, adds-nothing}
use Rattle.schema_data_types.proofs.Single.{what-is}
use Rattle.schema_expression_types.proofs.Adding.{elements-meant, no-elements}
use Rattle.schema_expression_types.proofs.sets.add_elements.Goals as goal

pub returns-then-number-len : goal.returns-then-number-len
returns-then-number-len c =
    let s = the_schema c.args.tables.now.names.now in
    let n = c.in-Aggregate.number in
    let w = c.in-Aggregate.field-1 in
    let old = c.args.atoms.now.items in
    let new = c.add_values.new.atoms.items in
    let long = ap length c.requires.tables.forms in
    let more = length-map (all_data_types s) (form_in s) in
    let lt : n < length (all_data_types s) = omega (arith, c.if-number-len.true, c.len.ensures, long, more) in
    let (k, at) = what-is (all_data_types s) n lt in
    rw c.in-Aggregate.is (on_ok_weaker c.add_values.result (adds-alike s old new (IsOf s k)
    (Elements s (IsMeant s (atoms.Aggregate n w))) (elements-meant s n w k at)) (c.add_values.ensures k at))

pub returns-else-number-len : goal.returns-else-number-len
returns-else-number-len c =
    let s = the_schema c.args.tables.now.names.now in
    let n = c.in-Aggregate.number in
    let w = c.in-Aggregate.field-1 in
    let long = ap length c.requires.tables.forms in
    let more = length-map (all_data_types s) (form_in s) in
    let le : length (all_data_types s) ≤ n = omega (arith, c.if-number-len.false, c.len.ensures, long, more) in
    rw c.in-Aggregate.is (adds-nothing s c.args.atoms.now.items (Elements s (IsMeant s (atoms.Aggregate n w)))
    (no-elements s n w le))
