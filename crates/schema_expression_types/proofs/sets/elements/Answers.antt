use Rattle.std.proofs.Common.{◌<◌, length, [], false, subst, arith}
use Rattle.std.proofs.lemmas.List.{take_all}
use Rattle.schema_semantics.specs.Sets.{Elements}
use Rattle.schema_data_types.specs.declared.values.Atom.TheVariants as atoms
use Rattle.schema_data_types.specs.declared.values.Sort.TheVariants as sorts
use Rattle.schema_names.specs.Schemas.{the_schema}
use Rattle.schema_data_types.specs.steps.Values.{AddsAll, Holds}
use Rattle.schema_expression_types.proofs.Adding.{elements-additive, next-added, set-of}
use Rattle.schema_expression_types.proofs.sets.elements.Goals as goal

pub loop-atom-preserved : goal.loop-atom-preserved
loop-atom-preserved c =
    let s = the_schema c.args.tables.now.names.now in
    let xs = c.args.atoms.now in
    let at = c.loop-atom.atom-index in
    let lt : at < length xs = omega (arith, c.loop-atom-test.true) in
    next-added s (Elements s) (elements-additive s) xs at (atoms.Value sorts.Number false) lt []
    c.loop-atom.elements.items c.add_elements.new.atoms.items c.loop-atom.invariant c.in_ok-add_elements.ensures

pub returns : goal.returns
returns c =
    let s = the_schema c.args.tables.now.names.now in
    set-of s (Elements s (Holds s c.args.atoms.now)) c.loop-atom.elements.items
    (subst (λ xs. AddsAll s [] (Elements s (Holds s xs)) c.loop-atom.elements.items)
    (take_all c.loop-atom.atom-index c.args.atoms.now c.loop-atom-test.false) c.loop-atom.invariant)
