use Rattle.std.proofs.Common.{◌≡◌, Some, refl, ap, sym, ◌∙◌, subst}
use Rattle.std.specs.Option.{option_copied}
use Rattle.indexmap.specs.IndexMap.{get}
use Rattle.schema_names.specs.Schemas.{the_schema}
use Rattle.population_findings.specs.declared.forms.Made.{Made}
use Rattle.population_forms.specs.steps.Forms.{NameEntities}
use Rattle.population_findings.specs.steps.Making.{same_items, IsExternal, MakesOne}
use Rattle.population_findings.proofs.Makings.{found-one, makes-external}
use Rattle.population_findings.proofs.forms.Made.external.Goals as goal

pub returns-in-Some : goal.returns-in-Some
returns-in-Some c =
    let t = c.args.self.now in
    let key = c.args.entities.now in
    let found : get same_items t.external key ≡ Some c.in-Some.number.now =
    sym c.get.ensures.value ∙ ap option_copied c.in-Some.is in
    found-one (the_schema c.args.known.now.names.now) (IsExternal (the_schema c.args.known.now.names.now) key.items) t
    c.in-Some.number.now c.requires.made (c.requires.made.external key c.in-Some.number.now found)

pub returns : goal.returns
returns c =
    let s = the_schema c.args.known.now.names.now in
    let x = c.in_ok-external_form.field-0 in
    let n = c.in_ok-number.number in
    let key = c.in_ok-from_slice.field-0 in
    let new : Made = record {
      internal = c.add.new.self.internal;
      external = c.insert.new.self;
      forms = c.add.new.self.forms;
      types = c.add.new.self.types;
    } in
    let items : key.items ≡ c.args.entities.now.items = c.in_ok-from_slice.ensures.items ∙ c.deref-2.ensures.value in
    let is : IsExternal s key.items x = subst (λ l. IsExternal s l x) (c.deref.ensures.value ∙ sym items)
    c.in_ok-external_form.ensures in
    subst (λ l. MakesOne s (IsExternal s l) c.args.self.now new n) items
    (makes-external s c.args.self.now c.add.new.self x n c.requires.made c.in_ok-number.ensures
    (λ en are. (is en are c.requires.named.0
    (subst (NameEntities s c.requires.named.0) (sym items) c.requires.named.1)).numbered)
    key new is c.in_ok-insert.ensures.updates.0 refl refl refl)
