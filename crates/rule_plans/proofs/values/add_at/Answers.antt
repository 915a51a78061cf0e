use Rattle.std.proofs.Common.{ap, subst}
use Rattle.std.proofs.lemmas.Result.{on_ok_weaker}
use Rattle.rule_plans.specs.steps.Coded.{coded_at}
use Rattle.rule_plans.specs.steps.Seeking.{Adds}
use Rattle.rule_plans.proofs.Adding.{adds-nothing}
use Rattle.rule_plans.proofs.values.add_at.Goals as goal

pub returns-in-Some : goal.returns-in-Some
returns-in-Some c =
    on_ok_weaker c.add_values.result
    (subst (λ ds. Adds ds c.args.found.now c.add_values.new.found)
    (ap (coded_at c.args.seeker.now c.args.sought c.args.base.now) c.in-Some.ensures))
    c.add_values.ensures

pub returns-in-None : goal.returns-in-None
returns-in-None c =
    subst (λ ds. Adds ds c.args.found.now c.args.found.now)
    (ap (coded_at c.args.seeker.now c.args.sought c.args.base.now) c.in-None.ensures) (adds-nothing c.args.found.now)
