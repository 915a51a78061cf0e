use Rattle.std.proofs.Common.{◌<◌, ◌-◌, refl, sym, ◌∙◌, ap, subst, arith}
use Rattle.std.specs.List.{All}
use Rattle.std.proofs.lemmas.Bool.{false≢true}
use Rattle.std.proofs.lemmas.List.{get_or_default}
use Rattle.partitions.specs.declared.pairs.Pair.{Pair}
use Rattle.partitions.specs.Views.{layout}
use Rattle.split_checks.specs.steps.ComputedWalk.{IsStep}
use Rattle.split_checks.proofs.Grouping.{all_grounded, first_stands, next_stands, stay}
use Rattle.split_checks.proofs.Runs.{no_pair, run_places}
use Rattle.split_checks.proofs.group_walk.have_ground.Goals as goal

pub loop-end-init : goal.loop-end-init
loop-end-init c = (
  0,
  first_stands c.args.moves.now c.args.own.now c.args.shapes.now c.args.edges.now c.requires.edges
      c.run_start-end.result (layout c.in_ok-labels.labels) (layout c.in_ok-groups.groups)
      (layout c.part_groups.new.groups) c.requires.shapes c.run_start-end.ensures c.in_ok-labels.ensures
      c.in_ok-groups.ensures c.in_ok-part_groups.ensures,
)

pub step-requires-clause-places : goal.step-requires-clause-places
step-requires-clause-places c =
    let s = c.loop-end.invariant.1 in
    run_places c.args.moves.now _ c.run_start-first.result c.loop-end.end c.run_start-first.ensures s.within _
    (subst (λ n. All (λ (a : Pair). a.place < n) c.args.moves.now) (sym s.groups_are.places) c.requires.places)

pub returns-then-not-branch : goal.returns-then-not-branch
returns-then-not-branch c =
    let s = c.loop-end.invariant.1 in
    let some = c.loop-end-test.true in
    let within = s.within in (
      λ e. absurd (false≢true e),
      λ h. sym c.if-not-branch.true ∙ c.in_ok-step.ensures.right.1
          (stay c.args.moves.now c.args.own.now c.args.shapes.now c.args.edges.now c.requires.edges
          c.loop-end.invariant.0 _ c.run_start-first.result c.loop-end.end (layout c.loop-end.labels)
          (layout c.loop-end.groups) s some c.requires.falling
          (ap (λ (b : Pair). b.class) (get_or_default c.args.moves.now (c.loop-end.end - 1) _ no_pair
          (omega (arith, some, within)))) c.run_start-first.ensures h),
    )

pub loop-end-preserved : goal.loop-end-preserved
loop-end-preserved c =
    let s = c.loop-end.invariant.1 in
    let some = c.loop-end-test.true in
    let within = s.within in (
      _,
      next_stands c.args.moves.now c.args.own.now c.args.shapes.now c.args.edges.now c.requires.edges
          c.loop-end.invariant.0 _ c.run_start-first.result c.loop-end.end (layout c.loop-end.labels)
          (layout c.loop-end.groups) s some c.requires.falling
          (ap (λ (b : Pair). b.class) (get_or_default c.args.moves.now (c.loop-end.end - 1) _ no_pair
          (omega (arith, some, within)))) c.run_start-first.ensures (layout c.step.new.labels)
          (layout c.step.new.groups)
          (subst (IsStep c.args.edges.now _ (layout c.loop-end.labels) (layout c.step.new.labels)
          (layout c.loop-end.groups) (layout c.step.new.groups)) c.if-not-branch.false c.in_ok-step.ensures),
    )

pub returns : goal.returns
returns c = (
  λ _. all_grounded c.args.moves.now c.args.own.now c.args.shapes.now c.args.edges.now c.requires.edges
      c.loop-end.invariant.0 c.loop-end.end (layout c.loop-end.labels) (layout c.loop-end.groups)
      (let test = c.loop-end-test.false in omega (arith, test)) c.loop-end.invariant.1,
  λ _. refl,
)
