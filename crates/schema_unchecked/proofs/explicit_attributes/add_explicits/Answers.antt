use Rattle.std.proofs.Common.{◌<◌, length, arith, get_or, map, subst, sym}
use Rattle.std.proofs.lemmas.List.{take_all}
use Rattle.std.proofs.lemmas.Option.{get_or_from_slice_get}
use Rattle.express_syntax.specs.ExpressionViews.{capitals}
use Rattle.express_syntax.specs.Views.{explicit_of}
use Rattle.schema_semantics.specs.Parts.{for_each, parts_of_explicit}
use Rattle.schema_names.proofs.Edges.{within}
use Rattle.schema_attribute_references.specs.steps.Taking.{schema_in}
use Rattle.schema_unchecked_declarations.specs.UncheckedLists.{Adds, unchecked_in}
use Rattle.schema_unchecked_declarations.proofs.Turns.{adds-next}
use Rattle.schema_unchecked.specs.steps.Places.{IsDataTypeAt}
use Rattle.schema_unchecked.proofs.Standing.{seen-at}
use Rattle.schema_unchecked.proofs.explicit_attributes.add_explicits.Goals as goal

pub bounds-row-i : goal.bounds-row-i
bounds-row-i c =
    let xs = c.args.explicits.now in
    let x = c.index-explicits-i.result in
    let lt : c.loop-i.i < length xs = omega (arith, c.loop-i-test.true) in
    let (n, at, is) = c.requires.row c.loop-i.i (explicit_of x) (seen-at explicit_of xs c.loop-i.i x lt c.index-explicits-i.is) in
    within c.args.row.now c.loop-i.i n at

pub add_explicit-requires-clause-data_type : goal.add_explicit-requires-clause-data_type
add_explicit-requires-clause-data_type c =
    let s = schema_in c.args.findings.now.known in
    let xs = c.args.explicits.now in
    let row = c.args.row.now in
    let i = c.loop-i.i in
    let x = c.index-explicits-i.result in
    let lt : i < length xs = omega (arith, c.loop-i-test.true) in
    let (n, at, is) = c.requires.row i (explicit_of x) (seen-at explicit_of xs i x lt c.index-explicits-i.is) in
    subst (λ m. IsDataTypeAt s m (explicit_of x).data_type) (sym (get_or_from_slice_get row i n 0 at)) is

pub loop-i-preserved : goal.loop-i-preserved
loop-i-preserved c =
    let xs = c.args.explicits.now in
    let i = c.loop-i.i in
    let x = c.index-explicits-i.result in
    let lt : i < length xs = omega (arith, c.loop-i-test.true) in
    adds-next explicit_of (parts_of_explicit (schema_in c.args.findings.now.known) (capitals c.args.holder)) xs i x
    (unchecked_in c.args.list.now.items) (unchecked_in c.loop-i.list.items)
    (unchecked_in c.add_explicit.new.list.items) lt c.index-explicits-i.is c.loop-i.invariant
    c.in_ok-add_explicit.ensures

pub returns : goal.returns
returns c =
    subst (λ xs. Adds
    (for_each (parts_of_explicit (schema_in c.args.findings.now.known) (capitals c.args.holder)) (map explicit_of xs))
    (unchecked_in c.args.list.now.items) (unchecked_in c.loop-i.list.items))
    (take_all c.loop-i.i c.args.explicits.now c.loop-i-test.false) c.loop-i.invariant
