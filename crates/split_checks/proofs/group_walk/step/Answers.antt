use Rattle.std.proofs.Common.{◌≡◌, subst}
use Rattle.partitions.specs.Layouts.{Layout}
use Rattle.partitions.specs.Refinements.{IsPartedByPairs}
use Rattle.partitions.specs.Views.{layout}
use Rattle.split_checks.specs.steps.ComputedWalk.{IsTried}
use Rattle.split_checks.proofs.Grouping.{stepped, stopped}
use Rattle.split_checks.proofs.group_walk.step.Goals as goal

pub returns-then-not-branch : goal.returns-then-not-branch
returns-then-not-branch c =
    let copy : c.in_ok-to_vec.field-0.items ≡ c.args.run.now = c.in_ok-to_vec.ensures.items_if_clones_equal (λ a b h. h) in
    stopped c.args.edges.now c.args.run.now (layout c.args.labels.now) (layout c.args.labels.now)
    (layout c.args.groups.now) (layout c.stay_whole.new.groups)
    (subst (λ b. IsTried c.args.run.now (layout c.args.groups.now) (layout c.stay_whole.new.groups) b)
    c.if-not-branch.true
    (subst (λ ps. IsTried ps (layout c.args.groups.now) (layout c.stay_whole.new.groups) c.in_ok-stay_whole.field-0) copy
    c.in_ok-stay_whole.ensures))

pub returns : goal.returns
returns c =
    let labels : Layout = layout c.args.labels.now in
    let next : Layout = layout c.part_by_pairs.new.self in
    let groups : Layout = layout c.args.groups.now in
    let same : Layout = layout c.stay_whole.new.groups in
    let copy : c.in_ok-to_vec.field-0.items ≡ c.args.run.now = c.in_ok-to_vec.ensures.items_if_clones_equal (λ a b h. h) in
    let other : c.in_ok-to_vec-2.field-0.items ≡ c.args.run.now =
    c.in_ok-to_vec-2.ensures.items_if_clones_equal (λ a b h. h) in
    stepped c.args.edges.now c.args.run.now labels next groups same (layout c.part_groups.new.groups)
    c.class_count-low.result c.class_count-low.ensures
    (subst (IsTried c.args.run.now groups same) c.if-not-branch.false
    (subst (λ ps. IsTried ps groups same c.in_ok-stay_whole.field-0) copy c.in_ok-stay_whole.ensures))
    (subst (IsPartedByPairs labels next) other c.in_ok-part_by_pairs.ensures) c.in_ok-part_groups.ensures
