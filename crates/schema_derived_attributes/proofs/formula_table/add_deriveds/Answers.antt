use Rattle.std.proofs.Common.{◌≡◌, ◌<◌, ◌∙◌, None, length, arith, ap, get_or, map, refl, subst}
use Rattle.std.proofs.lemmas.List.{take_all}
use Rattle.express_syntax.specs.Views.{derived_of}
use Rattle.schema_derived_attributes.specs.steps.Making.{Adds}
use Rattle.schema_derived_attributes.proofs.Joined.{adds-none, adds-one, adds-next}
use Rattle.schema_derived_attributes.proofs.formula_table.add_deriveds.Goals as goal

pub loop-derived-init : goal.loop-derived-init
loop-derived-init c = adds-none c.args.ranks.now c.args.formulas.now.items

pub loop-derived-preserved : goal.loop-derived-preserved
loop-derived-preserved c =
    let ranks = c.args.ranks.now in
    let xs = c.args.deriveds.now in
    let i = c.loop-derived.derived-index in
    let x = c.derived-item.result in
    let old = c.loop-derived.formulas.items in
    let new = c.push.new.self.items in
    let lt : i < length xs = omega (arith, c.loop-derived-test.true) in
    let count = c.len.ensures in
    let long = c.loop-derived.formulas.ok.0 in
    let behind : c.len.result ≡ length old = omega (arith, count, long) in
    adds-next ranks derived_of (λ ds. ds) (λ ys zs. refl) xs i x c.args.formulas.now.items old new lt c.derived-item.is
    c.loop-derived.invariant
    (adds-one ranks (derived_of x) c.formula_of.result c.rank_of-rank.result old new
    (c.rank_of-rank.ensures ∙ ap (λ n. get_or ranks n None) behind) c.formula_of.ensures c.in_ok-push.ensures.items)

pub returns : goal.returns
returns c =
    subst (λ xs. Adds c.args.ranks.now (map derived_of xs) c.args.formulas.now.items c.loop-derived.formulas.items)
    (take_all c.loop-derived.derived-index c.args.deriveds.now c.loop-derived-test.false) c.loop-derived.invariant
