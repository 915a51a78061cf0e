use Rattle.std.proofs.Common.{sym, ◌∙◌, refl, arith}
use Rattle.std.proofs.lemmas.Bool.{false≢true}
use Rattle.std.proofs.lemmas.List.{length-map}
use Rattle.value_equality.specs.TableViews.{origin_of, table_of}
use Rattle.certificate_checks.specs.steps.ComputedParents.{HasParent}
use Rattle.certificate_checks.proofs.Parents.{one_more_below, split_within}
use Rattle.certificate_checks.proofs.table_form.have_parents.Goals as goal

pub returns-then-not-has_parent : goal.returns-then-not-has_parent
returns-then-not-has_parent c = (
  λ q. absurd (false≢true q),
  λ all. sym c.if-not-has_parent.true ∙ c.has_parent.ensures.1 (all c.loop-class.class),
)

pub loop-class-preserved : goal.loop-class-preserved
loop-class-preserved c = one_more_below (HasParent (table_of c.args.table.now)) c.loop-class.class c.loop-class.invariant
    (c.has_parent.ensures.0 c.if-not-has_parent.false)

pub returns : goal.returns
returns c = (
  λ _ i p r at. c.loop-class.invariant i (let w = split_within (table_of c.args.table.now) i p r at in
      let same = length-map c.args.table.now.classes.items origin_of in
      omega (arith, w, same, c.len-class-end.ensures, c.loop-class-test.false)) p r at,
  λ _. refl,
)
