use Rattle.std.proofs.Common.{◌≡◌, ◌∙◌, ◌<◌, ◌≤◌, [], ap, sym, subst, arith, length, map, flat_map, take}
use Rattle.std.proofs.lemmas.List.{length-map, take_all}
use Rattle.express_syntax.specs.Views.{declaration_of}
use Rattle.schema_attribute_references.specs.steps.Taking.{schema_in}
use Rattle.schema_attributes.specs.Derivations.{derivations_in}
use Rattle.schema_derived_attributes.proofs.Asking.{seen-there}
use Rattle.schema_unchecked.specs.steps.Growing.{AddsJudged}
use Rattle.schema_unchecked.proofs.InTurn.{value-of, declaration-judged, adds-all}
use Rattle.schema_unchecked.proofs.derivations.judge_derivations.Goals as goal

pub judge_declaration-requires-clause-at : goal.judge_declaration-requires-clause-at
judge_declaration-requires-clause-at c =
    let xs = c.args.known.now.tables.names.now.schema.now.declarations.items in
    seen-there declaration_of xs c.loop-number.number c.index.result.now
    (omega (arith, c.loop-number-test.true, c.len-number-end.ensures)) c.index.ensures

pub loop-number-preserved : goal.loop-number-preserved
loop-number-preserved c =
    let s = schema_in c.args.known.now in
    let xs = c.args.known.now.tables.names.now.schema.now.declarations.items in
    let i = c.loop-number.number in
    let d = declaration_of c.index.result.now in
    let v = value-of s (map declaration_of xs) i d
    (seen-there declaration_of xs i c.index.result.now
    (omega (arith, c.loop-number-test.true, c.len-number-end.ensures)) c.index.ensures) in
    declaration-judged s (map declaration_of xs) i d c.loop-number.judged.items c.judge_declaration.new.judged.items
    v.0 v.1 c.loop-number.invariant c.in_ok-judge_declaration.ensures

pub returns : goal.returns
returns c =
    let s = schema_in c.args.known.now in
    let xs = c.args.known.now.tables.names.now.schema.now.declarations.items in
    let long = length-map xs declaration_of in
    adds-all s c.loop-number.judged.items
    (subst (λ ds. AddsJudged s [] (flat_map derivations_in ds) c.loop-number.judged.items)
    (take_all c.loop-number.number (map declaration_of xs)
    (omega (arith, c.loop-number-test.false, c.len-number-end.ensures, long))) c.loop-number.invariant)
