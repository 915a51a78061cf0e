use Rattle.std.proofs.Common.{◌≡◌, map, length, sym, ◌∙◌, arith}
use Rattle.std.proofs.lemmas.List.{length-map}
use Rattle.express_syntax.specs.Views.{inverse_of}
use Rattle.schema_names.specs.Schemas.{the_schema}
use Rattle.schema_attributes.specs.steps.Gathering.{SaysInverse}
use Rattle.schema_attributes.proofs.Gathered.{none-yet, one-more, at-length, seen}
use Rattle.schema_attributes.proofs.attribute_collection.add_inverses.Goals as goal

pub loop-n-init : goal.loop-n-init
loop-n-init c =
    none-yet (SaysInverse (the_schema c.args.sources.now.names.now) c.args.owner.now.entity c.args.owner.now.row.now c.args.first) (map inverse_of c.args.inverses.now)
    c.args.table.now

pub loop-n-preserved : goal.loop-n-preserved
loop-n-preserved c =
    let xs = c.args.inverses.now in
    let n = c.loop-n.n in
    let x = c.index-inverses-n.result in
    one-more (SaysInverse (the_schema c.args.sources.now.names.now) c.args.owner.now.entity c.args.owner.now.row.now c.args.first) (map inverse_of xs) n (inverse_of x)
    c.args.table.now c.loop-n.table c.add_inverse.new.table
    (seen inverse_of xs n x c.loop-n-test.true c.index-inverses-n.is) c.loop-n.invariant c.in_ok-add_inverse.ensures

pub returns : goal.returns
returns c =
    let xs = c.args.inverses.now in
    let n = c.loop-n.n in
    let before = c.loop-n.auto.n-end in
    let after = c.loop-n-test.false in
    let end : n ≡ length xs = omega (arith, before, after) in
    at-length (SaysInverse (the_schema c.args.sources.now.names.now) c.args.owner.now.entity c.args.owner.now.row.now c.args.first) (map inverse_of xs) n
    c.args.table.now c.loop-n.table (end ∙ sym (length-map xs inverse_of)) c.loop-n.invariant
