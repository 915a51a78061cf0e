use Rattle.std.proofs.Common.{◌∙◌, sym, subst}
use Rattle.step_values.specs.steps.Slots.{nth}
use Rattle.rule_plans.specs.steps.Coded.{is_wanted}
use Rattle.rule_plans.specs.steps.Flat.{is_flat_at}
use Rattle.rule_plans.specs.steps.Seeking.{Adds}
use Rattle.rule_plans.proofs.Adding.{adds-nothing}
use Rattle.rule_plans.proofs.Passing.{first-of, second-of, place-none}
use Rattle.rule_plans.proofs.values.add_slot.Goals as goal

pub returns-then-is_passed : goal.returns-then-is_passed
returns-then-is_passed c =
    let o = nth c.args.values.now c.args.position in
    let said = is_wanted c.args.unsought.now c.args.position in
    let passed = sym c.is_passed.ensures ∙ c.if-is_passed.true in
    subst (λ ds. Adds ds c.args.found.now c.args.found.now)
    (sym (place-none c.args.seeker.now c.args.asked.now c.args.place o (second-of said (is_flat_at o) passed)
    (c.requires (first-of said (is_flat_at o) passed)))) (adds-nothing c.args.found.now)
