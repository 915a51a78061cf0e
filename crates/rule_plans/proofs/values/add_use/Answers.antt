use Rattle.std.proofs.Common.{◌∙◌, ap, sym, subst}
use Rattle.std.proofs.lemmas.Result.{on_ok_weaker}
use Rattle.step_values.specs.steps.Slots.{nth}
use Rattle.rule_plans.specs.steps.Coded.{coded_at}
use Rattle.rule_plans.specs.steps.Seeking.{Adds}
use Rattle.rule_plans.proofs.Adding.{adds-nothing}
use Rattle.rule_plans.proofs.Walking.{use-there, use-elsewhere}
use Rattle.rule_plans.proofs.values.add_use.Goals as goal

pub returns-then-each-place : goal.returns-then-each-place
returns-then-each-place c =
    let o = nth c.args.values.now c.args.position in
    on_ok_weaker c.add_at.result
    (subst (λ ds. Adds ds c.args.found.now c.add_at.new.found)
    (ap (λ q. coded_at c.args.seeker.now q c.args.base.now o) c.by_number-sought.ensures
    ∙ sym (use-there c.args.seeker.now c.args.base.now o c.args.each c.args.place c.if-each-place.true)))
    c.add_at.ensures

pub returns-else-each-place : goal.returns-else-each-place
returns-else-each-place c =
    let o = nth c.args.values.now c.args.position in
    subst (λ ds. Adds ds c.args.found.now c.args.found.now)
    (sym (use-elsewhere c.args.seeker.now c.args.base.now o c.args.each c.args.place c.if-each-place.false))
    (adds-nothing c.args.found.now)
