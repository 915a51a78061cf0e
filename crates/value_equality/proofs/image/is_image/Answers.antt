use Rattle.std.proofs.Common.{sym, ◌∙◌}
use Rattle.std.specs.Ordering.{nat_cmp}
use Rattle.std.specs.BTreeSet.{contains}
use Rattle.value_equality.proofs.Landing.{image_where}
use Rattle.value_equality.proofs.image.is_image.Goals as goal

pub returns-then-not-branch : goal.returns-then-not-branch
returns-then-not-branch c =
    (λ e. absurd (cc), λ image. sym c.if-not-branch.true ∙ c.in_ok-rows_land.ensures.1 image.image.lands)

pub returns-then-not-branch-2 : goal.returns-then-not-branch-2
returns-then-not-branch-2 c =
    (λ e. absurd (cc), λ image. sym c.if-not-branch-2.true ∙ c.in_ok-is_onto.ensures.1 image.image.onto)

pub returns : goal.returns
returns c =
    image_where c.args.p.now c.args.q.now c.args.map.now (contains nat_cmp c.args.pinned.now) c.leaves_alone.result
    (c.has_domain.ensures.0 c.if-not-has_domain.false) (c.in_ok-rows_land.ensures.0 c.if-not-branch.false)
    (c.in_ok-is_onto.ensures.0 c.if-not-branch-2.false) c.leaves_alone.ensures
