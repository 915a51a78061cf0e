use Rattle.std.proofs.Common.{sym, subst}
use Rattle.std.proofs.lemmas.List.{take_more}
use Rattle.step_values.specs.steps.Slots.{nth}
use Rattle.schema_redeclarations.specs.Uses.{of_place}
use Rattle.schema_underlying_types.specs.BaseEntries.{entry}
use Rattle.rule_plans.specs.steps.Coded.{coded_uses}
use Rattle.rule_plans.specs.steps.Seeking.{Adds}
use Rattle.rule_plans.proofs.Adding.{adds-both, adds-nothing}
use Rattle.rule_plans.proofs.Walking.{type-next}
use Rattle.rule_plans.proofs.values.add_place.Goals as goal

pub loop-i-init : goal.loop-i-init
loop-i-init c = adds-nothing c.args.found.now

pub loop-i-preserved : goal.loop-i-preserved
loop-i-preserved c =
    let x = c.args.seeker.now in
    let k = c.args.asked.now in
    let o = nth c.args.values.now c.args.position in
    let b = entry k.declared.now c.args.place in
    subst (λ ds. Adds ds c.args.found.now c.add_uses.new.found)
    (sym (type-next x b o k.uses.now c.args.place _ _ _ c.uses_at-uses.result.now
    (take_more k.types.now c.loop-i.i _ c.loop-i-test.true) c.uses_at-uses.ensures))
    (adds-both _ _ _ _ _ c.loop-i.invariant
    (subst (λ z. Adds (coded_uses x z o (of_place c.args.place c.uses_at-uses.result.now)) c.loop-i.found
    c.add_uses.new.found) c.declared_at-base.ensures c.in_ok-add_uses.ensures))
