use Rattle.std.proofs.Common.{◌≡◌, ◌∙◌, ◌+◌, refl, ap, sym, subst, map, length, slice_get, arith}
use Rattle.std.proofs.lemmas.List.{length-map}
use Rattle.graphs.specs.Graphs.{next}
use Rattle.express_syntax.specs.Views.{declaration_of}
use Rattle.schema_names.specs.Schemas.{the_schema}
use Rattle.schema_attributes.specs.Derivations.{derivations_in}
use Rattle.schema_attributes.specs.steps.Gathering.{AddsAll, rows_in, SaysAt, SaysDeclaration}
use Rattle.schema_attributes.proofs.Gathered.{none-yet, one-more, at-length, seen, count-more}
use Rattle.schema_attributes.proofs.attribute_collection.add_declarations.Goals as goal

pub add_declaration-requires-clause-at : goal.add_declaration-requires-clause-at
add_declaration-requires-clause-at c =
    let n = c.loop-n.n in
    let d = c.index-declarations-n.result in
    let here = seen declaration_of c.args.declarations.now n d c.loop-n-test.true c.index-declarations-n.is in
    ap (λ ds. slice_get (map declaration_of ds) n) (sym c.requires.whole) ∙ here

pub loop-n-init : goal.loop-n-init
loop-n-init c =
    let ds = map declaration_of c.args.declarations.now in (
      refl,
      none-yet (SaysAt (the_schema c.args.sources.now.names.now) (rows_in c.args.sources.now) ds) ds
          c.args.table.now,
    )

pub loop-n-preserved : goal.loop-n-preserved
loop-n-preserved c =
    let s = the_schema c.args.sources.now.names.now in
    let rows = rows_in c.args.sources.now in
    let xs = c.args.declarations.now in
    let ds = map declaration_of xs in
    let n = c.loop-n.n in
    let x = c.index-declarations-n.result in
    let here = seen declaration_of xs n x c.loop-n-test.true c.index-declarations-n.is in (
      c.in_ok-count.ensures ∙ ap (λ m. c.loop-n.count + m) c.derived_count.ensures
          ∙ ap (λ m. m + length (derivations_in (declaration_of x))) c.loop-n.invariant.0
          ∙ sym (count-more derivations_in ds n (declaration_of x) here),
      one-more (SaysAt s rows ds) ds n (declaration_of x) c.args.table.now c.loop-n.table
          c.add_declaration.new.table here c.loop-n.invariant.1
          (subst (λ m. AddsAll c.loop-n.table (SaysDeclaration s n (next rows n) m (declaration_of x))
          c.add_declaration.new.table) c.loop-n.invariant.0 c.in_ok-add_declaration.ensures),
    )

pub returns : goal.returns
returns c =
    let xs = c.args.declarations.now in
    let ds = map declaration_of xs in
    let n = c.loop-n.n in
    let before = c.loop-n.auto.n-end in
    let after = c.loop-n-test.false in
    let end : n ≡ length xs = omega (arith, before, after) in
    at-length (SaysAt (the_schema c.args.sources.now.names.now) (rows_in c.args.sources.now) ds) ds n
    c.args.table.now c.loop-n.table (end ∙ sym (length-map xs declaration_of)) c.loop-n.invariant.1
