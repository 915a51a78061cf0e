use Rattle.std.proofs.Common.{◌<◌, ◌∙◌, length, map, ap, arith, subst, sym, []}
use Rattle.std.proofs.lemmas.List.{take_all, append-nil}
use Rattle.express_syntax.specs.ExpressionViews.{capitals}
use Rattle.express_syntax.specs.Views.{explicit_of}
use Rattle.schema_explicit_attributes.specs.Places.{places_of, Adds, of_explicit}
use Rattle.schema_explicit_attributes.proofs.Adding.{explicits_of, adds-none, adds-next, next-explicit, explicits-own}
use Rattle.schema_explicit_attributes.proofs.attributes.add_entity.Goals as goal

pub loop-explicit-init : goal.loop-explicit-init
loop-explicit-init c =
    subst (Adds (places_of c.args.places.now.items) [] [] (places_of c.args.places.now.items))
    (sym c.new-row.ensures.items)
    (adds-none (places_of c.args.places.now.items) [])

pub loop-explicit-preserved : goal.loop-explicit-preserved
loop-explicit-preserved c =
    let xs = c.deref-explicit-items.result.now in
    let at = c.loop-explicit.explicit-index in
    let lt : at < length xs = omega (arith, c.loop-explicit-test.true) in
    adds-next explicit_of (explicits_of (capitals c.args.entity.now.name))
    (next-explicit (capitals c.args.entity.now.name)) xs at c.explicit-item.result
    (places_of c.args.places.now.items) (places_of c.loop-explicit.places.items)
    (places_of c.add_explicit.new.places.items) [] c.loop-explicit.row.items c.add_explicit.new.row.items lt
    c.explicit-item.is c.loop-explicit.invariant
    (subst (λ ps. Adds (places_of c.loop-explicit.places.items) c.loop-explicit.row.items ps
    (places_of c.add_explicit.new.places.items) c.add_explicit.new.row.items)
    (sym (append-nil (of_explicit (capitals c.args.entity.now.name) (explicit_of c.explicit-item.result))))
    c.in_ok-add_explicit.ensures)

pub returns : goal.returns
returns c =
    let whole = take_all c.loop-explicit.explicit-index c.deref-explicit-items.result.now c.loop-explicit-test.false in
    rw c.shrink_to_fit.ensures.items
    (subst (λ ps. Adds (places_of c.args.places.now.items) [] ps (places_of c.loop-explicit.places.items)
    c.loop-explicit.row.items)
    (ap (λ xs. explicits_of (capitals c.args.entity.now.name) (map explicit_of xs))
    (whole ∙ c.deref-explicit-items.ensures.value)
    ∙ explicits-own (capitals c.args.entity.now.name) (map explicit_of c.args.entity.now.explicits.items))
    c.loop-explicit.invariant)
