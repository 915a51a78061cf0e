use Rattle.std.proofs.Common.{◌≡◌, ◌≤◌, ◌<◌, ◌∙◌, Some, sym, subst, ap, arith, length, slice_get}
use Rattle.schema_semantics.specs.Ranks.{Self}
use Rattle.schema_attribute_references.specs.steps.Taking.{schema_in}
use Rattle.schema_attributes.specs.Derivations.{all_derivations}
use Rattle.schema_derived_attributes.proofs.Ranked.{below-end, stands-at}
use Rattle.schema_unchecked.specs.steps.Judging.{IsReasonFor}
use Rattle.schema_unchecked.proofs.Firsts.{reason-is}
use Rattle.schema_unchecked.proofs.reasons.reason_of_derived.Goals as goal

pub returns-in-Some : goal.returns-in-Some
returns-in-Some c d x h der =
    let s = schema_in c.args.known.now in
    let found = c.in-Some.ensures.lookup in
    let j = c.in-Some.judgement.now in
    let lt : c.args.number < length c.args.judged.now = found.3.0 in
    let at : slice_get c.args.judged.now c.args.number ≡ Some j =
    stands-at c.args.judged.now c.args.number j lt ∙ ap Some (sym found.1) in
    subst (IsReasonFor s (Self d.0) x.body) (sym c.reason_with.ensures)
    (reason-is s (Self d.0) c.args.ranks.now c.requires.ranks x.body j
    (c.requires.judged.each c.args.number d x j h der at))

pub returns-in-None : goal.returns-in-None
returns-in-None c d x h der =
    let s = schema_in c.args.known.now in
    let over = c.in-None.ensures.lookup in
    let far : length c.args.judged.now ≤ c.args.number = over.3 in
    let lt = below-end (all_derivations s) c.args.number d h in
    let same = c.requires.judged.same in
    absurd (omega (arith, far, lt, same))
