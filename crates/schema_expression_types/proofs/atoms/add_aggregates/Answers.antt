use Rattle.std.proofs.Common.{◌<◌, length, false, subst, arith}
use Rattle.std.proofs.lemmas.List.{take_all}
use Rattle.schema_semantics.specs.Sets.{Aggregates}
use Rattle.schema_data_types.specs.declared.values.Atom.TheVariants as atoms
use Rattle.schema_data_types.specs.declared.values.Sort.TheVariants as sorts
use Rattle.schema_data_types.specs.steps.Values.{AddsAll, Holds}
use Rattle.schema_expression_types.proofs.Adding.{aggregates-additive, next-added}
use Rattle.schema_expression_types.proofs.atoms.add_aggregates.Goals as goal

pub loop-atom-preserved : goal.loop-atom-preserved
loop-atom-preserved c s =
    let xs = c.args.some.now in
    let at = c.loop-atom.atom-index in
    let lt : at < length xs = omega (arith, c.loop-atom-test.true) in
    next-added s Aggregates aggregates-additive xs at (atoms.Value sorts.Number false) lt c.args.atoms.now.items
    c.loop-atom.atoms.items c.add_aggregate.new.atoms.items (c.loop-atom.invariant s) (c.in_ok-add_aggregate.ensures s)

pub returns : goal.returns
returns c s =
    subst (λ xs. AddsAll s c.args.atoms.now.items (Aggregates (Holds s xs)) c.loop-atom.atoms.items)
    (take_all c.loop-atom.atom-index c.args.some.now c.loop-atom-test.false) (c.loop-atom.invariant s)
