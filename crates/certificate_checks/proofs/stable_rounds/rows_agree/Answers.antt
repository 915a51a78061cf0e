use Rattle.std.proofs.Common.{sym, ◌∙◌, refl, arith}
use Rattle.std.proofs.lemmas.Bool.{false≢true}
use Rattle.std.proofs.lemmas.Option.{slice_get_within}
use Rattle.value_equality.specs.Maps.{is_pinned}
use Rattle.value_equality.specs.Views.{row_seen}
use Rattle.certificate_checks.specs.steps.Places.{by_place}
use Rattle.certificate_checks.specs.steps.ComputedStability.{AgreesWithFirst, labels_by}
use Rattle.certificate_checks.proofs.Finding.{one_more}
use Rattle.certificate_checks.proofs.stable_rounds.rows_agree.Goals as goal

pub loop-place-preserved : goal.loop-place-preserved
loop-place-preserved c =
    let k = c.args.classes.now in
    let P = k.input.now in
    let pinned = is_pinned k.pinned.now in
    one_more (AgreesWithFirst P pinned (labels_by pinned P k.classes.items) (by_place P c.args.firsts.now.firsts.items)) P
    c.loop-place.place (row_seen c.row.result) c.row.ensures (c.in_ok-row_agrees.ensures.0 c.if-not-branch.false)
    c.loop-place.invariant

pub returns : goal.returns
returns c = (
  λ _ i r e. c.loop-place.invariant i r (let w = slice_get_within c.args.classes.now.input.now i r e in
      omega (arith, w, c.len-place-end.ensures.length, c.loop-place-test.false)) e,
  λ _. refl,
)

pub returns-then-not-branch : goal.returns-then-not-branch
returns-then-not-branch c = (
  λ q. absurd (false≢true q),
  λ all. sym c.if-not-branch.true ∙ c.in_ok-row_agrees.ensures.1 (all c.loop-place.place (row_seen c.row.result) c.row.ensures),
)
