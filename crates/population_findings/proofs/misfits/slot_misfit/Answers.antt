use Rattle.std.proofs.Common.{sym, ◌∙◌}
use Rattle.population_findings.proofs.Misfitting.{slot-misfit-is}
use Rattle.population_findings.proofs.misfits.slot_misfit.Goals as goal

pub returns : goal.returns
returns c =
    slot-misfit-is c.args.judge.now c.args.slot.now c.args.param.now c.first_misfit.result c.deref.result.now
    c.deref.ensures.value c.if-slot.false (sym c.is_allowed_unset.ensures ∙ c.if-is_allowed_unset.false)
    c.first_misfit.ensures
