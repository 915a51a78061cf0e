use Rattle.std.proofs.Common.{◌<◌, length, arith, map, subst}
use Rattle.std.proofs.lemmas.List.{take_all}
use Rattle.express_syntax.specs.Views.{inverse_of}
use Rattle.schema_semantics.specs.Names.{Among}
use Rattle.schema_explicit_attributes.proofs.Distinct.{at-among}
use Rattle.schema_attribute_references.specs.steps.Taking.{schema_in}
use Rattle.schema_constraints.specs.steps.Making.{Adds, inverses_of, IsInverse}
use Rattle.schema_constraints.proofs.Turns.{seen-at, adds-none, adds-next}
use Rattle.schema_constraints.proofs.Inverting.{inverses-joined}
use Rattle.schema_constraints.proofs.inverses.add_inverses.Goals as goal

pub loop-inverse-init : goal.loop-inverse-init
loop-inverse-init c e at = adds-none (IsInverse (schema_in c.args.sources.now.known)) c.args.attributes.now.items

pub add_inverse-requires-clause-declared : goal.add_inverse-requires-clause-declared
add_inverse-requires-clause-declared c =
    let xs = c.args.inverses.now in
    let i = c.loop-inverse.inverse-index in
    let x = c.inverse-item.result in
    let lt : i < length xs = omega (arith, c.loop-inverse-test.true) in
    let (e, at, same) = c.requires.declared in (
      e,
      at,
      subst (Among (inverse_of x)) same
          (at-among (map inverse_of xs) i (inverse_of x) (seen-at inverse_of xs i x lt c.inverse-item.is)),
    )

pub loop-inverse-preserved : goal.loop-inverse-preserved
loop-inverse-preserved c e at =
    let xs = c.args.inverses.now in
    let i = c.loop-inverse.inverse-index in
    let x = c.inverse-item.result in
    let lt : i < length xs = omega (arith, c.loop-inverse-test.true) in
    adds-next (IsInverse (schema_in c.args.sources.now.known)) inverse_of (inverses_of e.name) (inverses-joined e.name)
    xs i x
    c.args.attributes.now.items c.loop-inverse.attributes.items c.add_inverse.new.attributes.items lt c.inverse-item.is
    (c.loop-inverse.invariant e at) (c.in_ok-add_inverse.ensures e at)

pub returns : goal.returns
returns c e at =
    subst (λ xs. Adds (IsInverse (schema_in c.args.sources.now.known)) (inverses_of e.name (map inverse_of xs))
    c.args.attributes.now.items c.loop-inverse.attributes.items)
    (take_all c.loop-inverse.inverse-index c.args.inverses.now c.loop-inverse-test.false)
    (c.loop-inverse.invariant e at)
