use Rattle.std.proofs.Common.{◌<◌, length, arith, map, subst}
use Rattle.std.proofs.lemmas.List.{take_all}
use Rattle.express_syntax.specs.ExpressionViews.{capitals}
use Rattle.express_syntax.specs.Views.{inverse_of}
use Rattle.schema_semantics.specs.Parts.{for_each, parts_of_inverse}
use Rattle.schema_unchecked_declarations.specs.UncheckedLists.{Adds, unchecked_in}
use Rattle.schema_unchecked_declarations.proofs.Turns.{adds-next}
use Rattle.schema_unchecked_declarations.proofs.declarations.add_inverses.Goals as goal

pub loop-inverse-preserved : goal.loop-inverse-preserved
loop-inverse-preserved c =
    let xs = c.args.inverses.now in
    let i = c.loop-inverse.inverse-index in
    let lt : i < length xs = omega (arith, c.loop-inverse-test.true) in
    adds-next inverse_of (parts_of_inverse (capitals c.args.holder)) xs i c.inverse-item.result
    (unchecked_in c.args.list.now.items) (unchecked_in c.loop-inverse.list.items)
    (unchecked_in c.add_inverse.new.list.items) lt c.inverse-item.is c.loop-inverse.invariant
    c.in_ok-add_inverse.ensures

pub returns : goal.returns
returns c =
    subst (λ xs. Adds (for_each (parts_of_inverse (capitals c.args.holder)) (map inverse_of xs))
    (unchecked_in c.args.list.now.items) (unchecked_in c.loop-inverse.list.items))
    (take_all c.loop-inverse.inverse-index c.args.inverses.now c.loop-inverse-test.false) c.loop-inverse.invariant
