use Rattle.std.proofs.Common.{◌∙◌, sym, subst}
use Rattle.schema_names.specs.Schemas.{the_schema}
use Rattle.population_reader.specs.steps.Making.{values_by, AreReady, found_by, Adds}
use Rattle.typed_populations.proofs.Turns.{on-ok}
use Rattle.population_reader.proofs.Turns.{internal-parameters}
use Rattle.population_reader.proofs.instance_values.push_instance.Goals as goal

pub push_record-requires-clause-ready : goal.push_record-requires-clause-ready
push_record-requires-clause-ready c =
    let m = c.args.maker.now in
    subst (AreReady (the_schema m.bases.names.now) (found_by m) c.args.slots.now)
    (internal-parameters c.args.parts.now c.split-values.result.1 (sym c.is_internal.ensures ∙ c.if-not-is_internal.false)
    c.split-values.ensures.back)
    c.requires.ready

pub returns : goal.returns
returns c =
    let m = c.args.maker.now in
    on-ok c.push_record.result
    (subst (λ ts. Adds m c.args.builder.now c.push_record.new.builder
    (λ d. values_by (the_schema m.bases.names.now) d c.args.slots.now ts))
    (sym (internal-parameters c.args.parts.now c.split-values.result.1
    (sym c.is_internal.ensures ∙ c.if-not-is_internal.false) c.split-values.ensures.back)))
    c.push_record.ensures
