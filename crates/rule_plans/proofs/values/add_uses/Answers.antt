use Rattle.std.proofs.Common.{sym, subst}
use Rattle.std.proofs.lemmas.List.{take_more}
use Rattle.step_values.specs.steps.Slots.{nth}
use Rattle.rule_plans.specs.steps.Seeking.{Adds}
use Rattle.rule_plans.proofs.Adding.{adds-both, adds-nothing}
use Rattle.rule_plans.proofs.Walking.{use-next}
use Rattle.rule_plans.proofs.values.add_uses.Goals as goal

pub loop-i-init : goal.loop-i-init
loop-i-init c = adds-nothing c.args.found.now

pub loop-i-preserved : goal.loop-i-preserved
loop-i-preserved c =
    subst (λ ds. Adds ds c.args.found.now c.add_use.new.found)
    (sym (use-next c.args.seeker.now c.args.base.now (nth c.args.values.now c.args.position) c.args.place _ _ _
    (take_more c.args.uses.now c.loop-i.i _ c.loop-i-test.true)))
    (adds-both _ _ _ _ _ c.loop-i.invariant c.in_ok-add_use.ensures)
