use Rattle.std.proofs.Common.{◌≡◌, ◌∙◌, refl, map, ap}
use Rattle.std.specs.List.{list_all}
use Rattle.schema_redeclarations.specs.declared.uses.AttributeUse.{AttributeUse}
use Rattle.population_forms.specs.steps.Slots.{uses_by}
use Rattle.population_forms.proofs.Placed.{uses-found}
use Rattle.population_forms.proofs.slots.slot.Goals as goal

pub returns : goal.returns
returns c =
    let uses = c.args.uses.now in
    let types = c.args.types.now in
    let q = c.args.place in
    let are : c.in_ok-found.found.items ≡ uses_by uses types q =
    uses-found uses types q c.args.all.now c.in_ok-found.found.items c.find.result.now c.requires.all
    (c.find.ensures ∙ c.requires.by_place q) c.in_ok-found.ensures in
    record {
      place = refl;
      derived = c.is_derived.ensures;
      optional = c.all_optional.ensures ∙ ap (list_all (λ (u : AttributeUse). u.is_optional)) (c.deref.ensures.value ∙ are);
      data_types = c.in_ok-data_types_of.ensures ∙ ap (map (λ (u : AttributeUse). u.data_type)) (c.deref-2.ensures.value ∙ are);
    }
