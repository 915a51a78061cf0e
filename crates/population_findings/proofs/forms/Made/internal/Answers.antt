use Rattle.std.proofs.Common.{◌≡◌, Some, refl, ap, sym, ◌∙◌, slice_set, length, arith}
use Rattle.std.specs.Vec.{with_items}
use Rattle.std.proofs.lemmas.List.{with_items_is}
use Rattle.schema_names.specs.Schemas.{the_schema}
use Rattle.population_findings.specs.declared.forms.Made.{Made}
use Rattle.population_findings.specs.steps.Making.{number_in, IsInternal}
use Rattle.population_findings.proofs.Makings.{found-one, makes-internal}
use Rattle.population_findings.proofs.forms.Made.internal.Goals as goal

pub returns-in-Some : goal.returns-in-Some
returns-in-Some c =
    let t = c.args.self.now in
    let found : number_in t.internal.items c.args.entity ≡ Some c.in-Some.number =
    ap (λ os. number_in os c.args.entity) (sym c.deref.ensures.value) ∙ sym c.number_at.ensures ∙ c.in-Some.is in
    found-one (the_schema c.args.known.now.names.now) (IsInternal (the_schema c.args.known.now.names.now) c.args.entity)
    t c.in-Some.number c.requires.made (c.requires.made.internal c.args.entity c.in-Some.number found)

pub returns : goal.returns
returns c =
    let s = the_schema c.args.known.now.names.now in
    let adds = c.in_ok-number.ensures in
    let numbers = c.put_number.new.numbers in
    let long : length numbers ≡ c.add.new.self.internal.len =
    omega (arith, c.put_number.auto.numbers, c.deref_mut.ensures.len) in
    let new : Made = record {
      internal = with_items c.add.new.self.internal c.put_number.new.numbers;
      external = c.add.new.self.external;
      forms = c.add.new.self.forms;
      types = c.add.new.self.types;
    } in
    makes-internal s c.args.self.now c.add.new.self c.in_ok-internal_form.field-0 c.in_ok-number.number c.requires.made
    adds (λ en are. (c.in_ok-internal_form.ensures en are c.requires.named.0 c.requires.named.1).numbered)
    c.args.entity new c.in_ok-internal_form.ensures
    (with_items_is c.add.new.self.internal numbers long ∙ c.put_number.ensures
    ∙ ap (λ os. slice_set os c.args.entity (Some c.in_ok-number.number))
    (c.deref_mut.ensures.value ∙ ap (λ v. v.items) adds.internal)) refl refl refl
