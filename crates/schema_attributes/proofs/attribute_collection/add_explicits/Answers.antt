use Rattle.std.proofs.Common.{◌≡◌, map, length, sym, ◌∙◌, arith}
use Rattle.std.proofs.lemmas.List.{length-map}
use Rattle.express_syntax.specs.Views.{explicit_of}
use Rattle.schema_names.specs.Schemas.{the_schema}
use Rattle.schema_attributes.specs.steps.Gathering.{SaysExplicit}
use Rattle.schema_attributes.proofs.Gathered.{none-yet, one-more, at-length, seen}
use Rattle.schema_attributes.proofs.attribute_collection.add_explicits.Goals as goal

pub add_explicit-requires-clause-known : goal.add_explicit-requires-clause-known
add_explicit-requires-clause-known c t at = c.requires.known c.loop-n.n t c.loop-n-test.true at

pub loop-n-init : goal.loop-n-init
loop-n-init c =
    none-yet (SaysExplicit (the_schema c.args.sources.now.names.now) c.args.owner.now.entity c.args.owner.now.row.now) (map explicit_of c.args.explicits.now)
    c.args.table.now

pub loop-n-preserved : goal.loop-n-preserved
loop-n-preserved c =
    let xs = c.args.explicits.now in
    let n = c.loop-n.n in
    let x = c.index-explicits-n.result in
    one-more (SaysExplicit (the_schema c.args.sources.now.names.now) c.args.owner.now.entity c.args.owner.now.row.now) (map explicit_of xs) n (explicit_of x)
    c.args.table.now c.loop-n.table c.add_explicit.new.table
    (seen explicit_of xs n x c.loop-n-test.true c.index-explicits-n.is) c.loop-n.invariant c.in_ok-add_explicit.ensures

pub returns : goal.returns
returns c =
    let xs = c.args.explicits.now in
    let n = c.loop-n.n in
    let before = c.loop-n.auto.n-end in
    let after = c.loop-n-test.false in
    let end : n ≡ length xs = omega (arith, before, after) in
    at-length (SaysExplicit (the_schema c.args.sources.now.names.now) c.args.owner.now.entity c.args.owner.now.row.now) (map explicit_of xs)
    n c.args.table.now c.loop-n.table (end ∙ sym (length-map xs explicit_of)) c.loop-n.invariant
