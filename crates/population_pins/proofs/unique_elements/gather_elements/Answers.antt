use Rattle.std.proofs.Common.{◌≡◌, ◌∙◌, sym, ap, subst, arith}
use Rattle.conformance.specs.Bases.{IsDomain}
use Rattle.conformance.specs.Elements.{HasUniqueValue}
use Rattle.schema_names.specs.Schemas.{the_schema}
use Rattle.typed_populations.specs.Rows.{instance_seen}
use Rattle.typed_populations.specs.PopulationViews.{population_seen}
use Rattle.typed_populations.specs.PopulationTables.{form_among}
use Rattle.population_pins.specs.steps.Elements.{Asks}
use Rattle.population_pins.specs.steps.Slots.{AreKnown, slots_at}
use Rattle.population_pins.proofs.Listed.{next, ends}
use Rattle.population_pins.proofs.Rowed.{have-numbers, gathers-instance}
use Rattle.population_pins.proofs.unique_elements.gather_elements.Goals as goal

pub slots_by_form-requires-clause-known : goal.slots_by_form-requires-clause-known
slots_by_form-requires-clause-known c =
    subst (λ s. AreKnown s c.in_ok-tables.tables.uses) (sym (ap the_schema c.bases-bases.ensures.same))
    c.in_ok-tables.ensures.uses.known

pub gather_in_slots-requires-clause-numbered : goal.gather_in_slots-requires-clause-numbered
gather_in_slots-requires-clause-numbered c =
    let p = c.args.population.now in
    let s = the_schema p.types.now.names in
    have-numbers (the_schema c.bases-bases.result.names.now) s (ap the_schema c.bases-bases.ensures.same)
    c.in_ok-tables.tables.uses p.rows.forms.items c.forms.result.now c.forms.ensures.forms c.in_ok-rows.rows.items
    c.in_ok-rows.ensures c.instance-instance.result.form c.slots_at-slots.result.now
    (c.slots_at-slots.ensures ∙ ap (λ l. slots_at l c.instance-instance.result.form) c.deref.ensures.value)

pub loop-row-preserved : goal.loop-row-preserved
loop-row-preserved c d en is are =
    let p = c.args.population.now in
    let s = the_schema p.types.now.names in
    let same : the_schema c.bases-bases.result.names.now ≡ s = ap the_schema c.bases-bases.ensures.same in
    let x = c.instance-instance.result in
    next (λ q. HasUniqueValue s d en (Asks q)) (population_seen p) c.loop-row.row c.args.weak.now
    (instance_seen s x.name c.instance-instance.ensures.section (form_among p.rows.forms.items x.form) x.values) c.loop-row.weak
    c.gather_in_slots.new.weak
    c.instance-instance.ensures.seen (c.loop-row.invariant d en is are)
    (gathers-instance (the_schema c.bases-bases.result.names.now) s same c.in_ok-tables.tables.uses p.rows.forms.items
    c.forms.result.now c.forms.ensures.forms c.in_ok-rows.rows.items c.in_ok-rows.ensures x.form
    c.slots_at-slots.result.now (c.slots_at-slots.ensures ∙ ap (λ l. slots_at l x.form) c.deref.ensures.value)
    c.in_ok-tables.ensures.uses d is en are c.forms.ensures.numbered c.instance-instance.ensures.placed
    c.instance-instance.ensures.entities Asks x.name c.instance-instance.ensures.section x.values
    c.loop-row.weak c.gather_in_slots.new.weak
    (c.in_ok-gather_in_slots.ensures d (subst (λ z. IsDomain z d) (sym same) is)))

pub returns : goal.returns
returns c d en is are =
    let p = c.args.population.now in
    let s = the_schema p.types.now.names in
    let past = c.loop-row-test.false in
    let end = c.len-row-end.ensures in
    ends (λ q. HasUniqueValue s d en (Asks q)) (population_seen p) c.loop-row.row c.args.weak.now c.loop-row.weak
    (omega (arith, past, end)) (c.loop-row.invariant d en is are)
