use Rattle.std.proofs.Common.{◌<◌, length, arith, map, subst, sym}
use Rattle.std.proofs.lemmas.List.{take_all}
use Rattle.express_syntax.specs.ExpressionViews.{capitals}
use Rattle.express_syntax.specs.Views.{derived_of}
use Rattle.schema_semantics.specs.Parts.{for_each, parts_of_derived}
use Rattle.schema_attributes.specs.Derivations.{HasDerivation}
use Rattle.schema_attribute_references.specs.steps.Taking.{schema_in}
use Rattle.schema_unchecked_declarations.specs.UncheckedLists.{Adds, unchecked_in}
use Rattle.schema_unchecked_declarations.proofs.Turns.{adds-next}
use Rattle.schema_unchecked.proofs.Standing.{seen-at, so}
use Rattle.schema_unchecked.proofs.derived_attributes.add_deriveds.Goals as goal

pub loop-i-preserved : goal.loop-i-preserved
loop-i-preserved c =
    let s = schema_in c.args.findings.now.known in
    let h = capitals c.args.holder in
    let xs = c.args.deriveds.now in
    let i = c.loop-i.i in
    let x = c.index-deriveds-i.result in
    let lt : i < length xs = omega (arith, c.loop-i-test.true) in
    let old = unchecked_in c.args.list.now.items in
    let mid = unchecked_in c.loop-i.list.items in
    let new = unchecked_in c.add_derived.new.list.items in
    let (number, is) = c.requires.numbered i (derived_of x) (seen-at derived_of xs i x lt c.index-deriveds-i.is) in
    adds-next derived_of (parts_of_derived s h) xs i x old mid new lt c.index-deriveds-i.is c.loop-i.invariant
    (so c.add_derived.result c.in_ok-add_derived.field-0 (Adds (parts_of_derived s h (derived_of x)) mid new)
    c.in_ok-add_derived.was
    (c.add_derived.ensures i (subst (λ n. HasDerivation s n (h, i)) (sym c.in_ok-number.ensures) number) is))

pub returns : goal.returns
returns c =
    subst (λ xs. Adds
    (for_each (parts_of_derived (schema_in c.args.findings.now.known) (capitals c.args.holder)) (map derived_of xs))
    (unchecked_in c.args.list.now.items) (unchecked_in c.loop-i.list.items))
    (take_all c.loop-i.i c.args.deriveds.now c.loop-i-test.false) c.loop-i.invariant
