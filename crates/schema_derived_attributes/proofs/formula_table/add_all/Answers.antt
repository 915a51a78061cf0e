use Rattle.std.proofs.Common.{◌<◌, ◌∙◌, length, arith, map, flat_map, sym, subst}
use Rattle.std.proofs.lemmas.List.{append-nil, take_all}
use Rattle.express_syntax.specs.Views.{declaration_of}
use Rattle.schema_names.proofs.Rows.{flat-joined}
use Rattle.schema_derived_attributes.specs.steps.Asked.{deriveds_in}
use Rattle.schema_derived_attributes.specs.steps.Making.{Adds}
use Rattle.schema_derived_attributes.proofs.Joined.{adds-none, adds-next}
use Rattle.schema_derived_attributes.proofs.formula_table.add_all.Goals as goal

pub loop-declaration-init : goal.loop-declaration-init
loop-declaration-init c = adds-none c.args.ranks.now c.args.formulas.now.items

pub loop-declaration-preserved : goal.loop-declaration-preserved
loop-declaration-preserved c =
    let ranks = c.args.ranks.now in
    let xs = c.args.declarations.now in
    let i = c.loop-declaration.declaration-index in
    let x = c.declaration-item.result in
    let old = c.loop-declaration.formulas.items in
    let new = c.add_deriveds.new.formulas.items in
    let lt : i < length xs = omega (arith, c.loop-declaration-test.true) in
    adds-next ranks declaration_of (flat_map deriveds_in) (flat-joined deriveds_in) xs i x c.args.formulas.now.items old
    new lt c.declaration-item.is c.loop-declaration.invariant
    (subst (λ ds. Adds ranks ds old new) (c.deriveds_of.ensures ∙ sym (append-nil (deriveds_in (declaration_of x))))
    c.in_ok-add_deriveds.ensures)

pub returns : goal.returns
returns c =
    subst (λ xs. Adds c.args.ranks.now (flat_map deriveds_in (map declaration_of xs)) c.args.formulas.now.items
    c.loop-declaration.formulas.items)
    (take_all c.loop-declaration.declaration-index c.args.declarations.now c.loop-declaration-test.false)
    c.loop-declaration.invariant
