use Rattle.std.proofs.Common.{◌<◌, length, arith, map, refl, subst}
use Rattle.std.proofs.lemmas.List.{take_all}
use Rattle.express_syntax.specs.ExpressionViews.{capitals}
use Rattle.express_syntax.specs.Views.{unique_of}
use Rattle.schema_semantics.specs.Parts.{parts_of_uniques}
use Rattle.schema_attribute_references.specs.steps.Taking.{schema_in}
use Rattle.schema_unchecked_declarations.specs.UncheckedLists.{Adds, unchecked_in}
use Rattle.schema_unchecked.proofs.Counted.{adds-counted}
use Rattle.schema_unchecked.proofs.uniqueness_rules.add_uniques.Goals as goal

pub loop-i-preserved : goal.loop-i-preserved
loop-i-preserved c =
    let xs = c.args.uniques.now in
    let i = c.loop-i.i in
    let x = c.index-uniques-i.result in
    let lt : i < length xs = omega (arith, c.loop-i-test.true) in
    adds-counted unique_of (parts_of_uniques (schema_in c.args.findings.now.known) (capitals c.args.holder.name))
    (λ n. refl) (λ n r rs. refl) xs i x (unchecked_in c.args.list.now.items) (unchecked_in c.loop-i.list.items)
    (unchecked_in c.add_unique.new.list.items) lt c.index-uniques-i.is c.loop-i.invariant c.in_ok-add_unique.ensures

pub returns : goal.returns
returns c =
    subst (λ xs. Adds
    (parts_of_uniques (schema_in c.args.findings.now.known) (capitals c.args.holder.name) 1 (map unique_of xs))
    (unchecked_in c.args.list.now.items) (unchecked_in c.loop-i.list.items))
    (take_all c.loop-i.i c.args.uniques.now c.loop-i-test.false) c.loop-i.invariant
