use Rattle.std.proofs.Common.{◌≡◌, length, refl, subst, arith}
use Rattle.std.specs.Prelude.{slice_index}
use Rattle.split_checks.specs.steps.ComputedMembers.{Hold}
use Rattle.split_checks.proofs.Rows.{hold_more}
use Rattle.split_checks.proofs.members.members_of.Goals as goal

pub loop-place-preserved : goal.loop-place-preserved
loop-place-preserved c =
    hold_more c.args.last.now c.loop-place.lists.items c.add.new.lists.items c.args.classes c.loop-place.place _
    c.loop-place.invariant refl c.in_ok-add.ensures

pub returns-clause-hold : goal.returns-clause-hold
returns-clause-hold c =
    let done : c.loop-place.place ≡ length c.args.last.now = omega arith in
    subst (λ n. Hold c.loop-place.lists.items n (slice_index c.args.last.now)) done c.loop-place.invariant.hold
