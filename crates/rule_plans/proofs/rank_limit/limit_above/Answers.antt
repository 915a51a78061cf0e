use Rattle.std.proofs.Common.{◌<◌, ◌+◌, ◌∙◌, Some, length, take, ap, sym, subst, arith}
use Rattle.std.proofs.lemmas.List.{take_all}
use Rattle.std.proofs.lemmas.Option.{slice_get-get_or}
use Rattle.population_inverses.proofs.Held.{take-next}
use Rattle.rule_plans.specs.Limits.{AreRanksBelow}
use Rattle.rule_plans.proofs.Limiting.{limit-next}
use Rattle.rule_plans.proofs.rank_limit.limit_above.Goals as goal

pub loop-formula-preserved : goal.loop-formula-preserved
loop-formula-preserved c =
    let fs = c.args.rows.now in
    let i = c.loop-formula.formula-index in
    let o = c.formula-item.result in
    let lt : i < length fs = omega (arith, c.loop-formula-test.true) in
    limit-next (take i fs) (take (i + 1) fs) o c.loop-formula.limit c.raised-limit.result
    (take-next fs i o (slice_get-get_or fs i o lt ∙ ap Some (sym c.formula-item.is))) c.raised-limit.ensures
    c.loop-formula.invariant

pub returns : goal.returns
returns c =
    subst (λ fs. AreRanksBelow fs c.loop-formula.limit)
    (take_all c.loop-formula.formula-index c.args.rows.now c.loop-formula-test.false) c.loop-formula.invariant
