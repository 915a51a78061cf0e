use Rattle.std.proofs.Common.{◌≡◌, ◌∙◌, ◌<◌, ◌≤◌, Some, [], ◌∷◌, ap, sym, subst, arith, length, map, take, slice_get, refl}
use Rattle.std.proofs.lemmas.List.{length-map, take_all}
use Rattle.express_syntax.specs.Views.{declaration_of, derived_of, body_of}
use Rattle.schema_data_types.specs.declared.values.Atom.TheVariants as atoms
use Rattle.schema_data_types.specs.steps.Values.{Holds}
use Rattle.schema_attribute_references.specs.steps.Taking.{schema_in}
use Rattle.schema_attributes.specs.Derivations.{derivations_in}
use Rattle.schema_derived_attributes.specs.steps.Asked.{deriveds_in}
use Rattle.schema_derived_attributes.proofs.Asking.{seen-there, count-of}
use Rattle.schema_unchecked.specs.steps.Judging.{IsJudged}
use Rattle.schema_unchecked.specs.steps.Growing.{AddsJudged}
use Rattle.schema_unchecked.proofs.InTurn.{one-judged, adds-none}
use Rattle.schema_unchecked.proofs.derivations.judge_declaration.Goals as goal

pub loop-derived-init : goal.loop-derived-init
loop-derived-init c = adds-none (schema_in c.args.known.now) c.args.judged.now.items

pub loop-derived-preserved : goal.loop-derived-preserved
loop-derived-preserved c =
    let s = schema_in c.args.known.now in
    let d = declaration_of c.args.declaration.now in
    let xs = c.deriveds_in-derived-items.result.now in
    let i = c.loop-derived.derived-index in
    let x = c.derived-item.result in
    let j = c.in_ok-judge.field-0 in
    let lt : i < length xs = omega (arith, c.loop-derived-test.true) in
    let at : slice_get (deriveds_in d) i ≡ Some (derived_of x) =
    sym (ap (λ ds. slice_get ds i) c.deriveds_in-derived-items.ensures)
    ∙ seen-there derived_of xs i x lt c.derived-item.is in
    let judged : IsJudged s (Holds s (atoms.Instance c.args.number ∷ [])) (body_of x.body) j =
    subst (λ os. IsJudged s (Holds s os) (body_of x.body) j) c.from_ref.ensures.value c.in_ok-judge.ensures in
    one-judged s c.requires.known.resolved c.args.number i d (derived_of x) j c.args.judged.now.items
    c.loop-derived.judged.items c.push.new.self.items c.requires.at at judged c.loop-derived.invariant
    c.in_ok-push.ensures.items

pub returns : goal.returns
returns c =
    let s = schema_in c.args.known.now in
    let d = declaration_of c.args.declaration.now in
    let xs = c.deriveds_in-derived-items.result.now in
    let over = c.loop-derived-test.false in
    let one = length-map xs derived_of in
    let other = ap length c.deriveds_in-derived-items.ensures in
    let count = count-of d in
    subst (λ ds. AddsJudged s c.args.judged.now.items ds c.loop-derived.judged.items)
    (take_all c.loop-derived.derived-index (derivations_in d) (omega (arith, over, one, other, count)))
    c.loop-derived.invariant
