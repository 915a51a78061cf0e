use Rattle.std.proofs.Common.{◌∙◌, sym, subst}
use Rattle.conformance.specs.Entities.{parameters, records}
use Rattle.population_findings.specs.steps.Judging.{TellsAll}
use Rattle.population_findings.proofs.Makings.{form-external}
use Rattle.population_findings.proofs.Misfitting.{tells-one}
use Rattle.population_findings.proofs.InTurn.{on-ok}
use Rattle.population_findings.proofs.misfits.tell_misfits.Goals as goal

pub returns-then-not-is_internal : goal.returns-then-not-is_internal
returns-then-not-is_internal c =
    on-ok c.tell_partials.result
    (subst (λ f. TellsAll c.args.judge.now c.args.instance c.args.slots.now (parameters (records f))
    c.args.found.now.items c.tell_partials.new.found.items)
    (sym (form-external c.args.parts.now (sym c.is_internal.ensures ∙ c.if-not-is_internal.true))))
    c.tell_partials.ensures

pub returns : goal.returns
returns c =
    tells-one c.args.judge.now c.args.instance c.args.slots.now c.args.parts.now c.split-values.result.1
    c.args.found.now.items c.tell_record.new.found.items c.in_ok-tell_record.field-0
    (sym c.is_internal.ensures ∙ c.if-not-is_internal.false) c.split-values.ensures.back c.in_ok-tell_record.ensures
