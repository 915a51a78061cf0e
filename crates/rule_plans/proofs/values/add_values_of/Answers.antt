use Rattle.std.specs.Prelude.{ℕ, List, ◌∷◌, ◌++◌, [], cond, map, Option}
use Rattle.std.proofs.Common.{◌≡◌, ◌∙◌, ap, sym, subst, refl}
use Rattle.std.proofs.lemmas.List.{map-append}
use Rattle.std.proofs.lemmas.Result.{on_ok_weaker}
use Rattle.express_syntax.specs.Profile.{Every}
use Rattle.schema_semantics.specs.Names.{Name}
use Rattle.schema_semantics.proofs.Lists.{every-at}
use Rattle.schema_explicit_attributes.proofs.Distinct.{at-among}
use Rattle.schema_data_types.specs.declared.forms.Form.{Form}
use Rattle.conformance.specs.Populations.{Instance}
use Rattle.conformance.specs.Conforming.{Conforms, typing_of}
use Rattle.typed_populations.specs.Rows.{instance_seen}
use Rattle.typed_populations.specs.PopulationTables.{form_among, types_by_form, AreNumbered}
use Rattle.population_inverses.proofs.Held.{numbers-of}
use Rattle.express_logic.specs.Data.{Datum}
use Rattle.rule_settings.specs.Settings.{schema_in, population_in}
use Rattle.rule_names.specs.Tables.{AreDeclared}
use Rattle.rule_plans.specs.declared.value_search.Seeker.{Seeker}
use Rattle.rule_plans.specs.declared.values.Asked.{Asked}
use Rattle.rule_plans.specs.steps.Coded.{wanted_in, Told, told_by, coded_slots, slots_in}
use Rattle.rule_plans.specs.steps.Seeking.{IsSeeker, IsDeclared, those, worth}
use Rattle.rule_plans.specs.steps.Speaking.{is_of, values_of}
use Rattle.rule_plans.specs.steps.Unsought.{AreUnsought}
use Rattle.rule_plans.proofs.Passing.{alike}
use Rattle.rule_plans.proofs.Placing.{instance-same, one-instance}
use Rattle.rule_plans.proofs.Sifting.{told, those-joined, exactly-one, those-of-one}
use Rattle.rule_plans.proofs.values.add_values_of.Goals as goal

pub add_slots-requires : goal.add_slots-requires
add_slots-requires c =
    let S = c.args.setting.now in
    let forms = c.forms-forms.ensures.forms in
    let o = c.instance-instance.result.form in
    let seeker : List Form → Seeker = λ l. record {
      names = record { ref_ptr = (0, 0); now = S.extents.now.population.now.types.now.names };
      types = record { ref_ptr = (0, 0); now = S.tables.now.value_types };
      forms = record { ref_ptr = (0, 0); now = l };
      wanted = c.args.wanted;
    } in
    let types = c.types_at.result.now in
    let slots = c.slots_at-slots.result.now in
    let table = c.table_by-table.result.now in
    subst (λ l. AreUnsought (seeker l) S.tables.now.uses.now types slots table) (sym c.deref.ensures.value)
    (alike (seeker S.tables.now.data_types.forms.items) S.tables.now.uses.now types _ slots _ table _
    (c.types_at.ensures ∙ ap (λ l. types_by_form (form_among l o)) forms)
    (c.slots_at-slots.ensures ∙ ap (λ l. slots_in (form_among l o)) forms) c.table_by-table.ensures
    (c.requires.unsought o))

pub returns : goal.returns
returns c =
    let S = c.args.setting.now in
    let p = S.extents.now.population.now in
    let s = schema_in S in
    let is = population_in S in
    let tables = c.requires.setting.tables in
    let forms = c.forms-forms.ensures in
    let r = c.instance-instance.result in
    let h = c.instance-instance.ensures in
    let o = form_among p.rows.forms.items r.form in
    let y = instance_seen s r.name h.section o r.values in
    let seeker : Seeker = record {
      names = record { ref_ptr = (0, 0); now = p.types.now.names };
      types = record { ref_ptr = (0, 0); now = S.tables.now.value_types };
      forms = record { ref_ptr = (0, 0); now = c.deref.result.now };
      wanted = c.args.wanted;
    } in
    let asked : Asked = record {
      uses = record { ref_ptr = (0, 0); now = S.tables.now.uses.now };
      declared = record { ref_ptr = (0, 0); now = c.deref-2.result.now };
      types = record { ref_ptr = (0, 0); now = c.types_at.result.now };
    } in
    let is_seeker : IsSeeker seeker = record {
      resolved = c.requires.setting.known.made.resolved;
      forms = c.deref.ensures.value ∙ tables.forms;
    } in
    let all : List Told = coded_slots seeker asked c.slots_at-slots.result.now r.values in
    on_ok_weaker c.add_slots.result
    (λ adds. (
      all,
      adds,
      λ m x at.
          let given : (t : Name) (F : List Told → List Datum) → F [] ≡ []
          → ((xs ys : List Told) → F (xs ++ ys) ≡ F xs ++ F ys)
          → ((k : Option ℕ) → IsDeclared s k → (z : Datum)
          → F (told_by (wanted_in c.args.wanted.now k) z) ≡ cond (told s (is_of S m t) k) (z ∷ []) [])
          → F all ≡ values_of S m x t =
          λ t F empty joined single.
          subst (λ (z : Instance). F all ≡ values_of S m z t) (one-instance is c.args.row y x h.seen at)
          (instance-same seeker is_seeker tables.value_types m.said.domain m.said.is_domain m.said.entities m.said.are_entities m.said.attributes t
          (typing_of is) F empty joined single asked tables.uses
          (subst (AreDeclared s) (sym c.deref-2.ensures.value) tables.declared) o c.slots_at-slots.result.now
          (c.types_at.ensures ∙ ap (λ l. types_by_form (form_among l r.form)) forms.forms)
          (c.slots_at-slots.ensures ∙ ap (λ l. slots_in (form_among l r.form)) forms.forms) h.placed h.entities
          (numbers-of s p.rows.forms.items r.form (subst (Every (AreNumbered s)) forms.forms forms.numbered)) r.name h.section
          r.values
          (every-at (Conforms s m.said.domain (typing_of is) m.said.entities) y is m.conforms (at-among is c.args.row y h.seen))) in
          record {
            exactly = λ t tells. given t (map worth) refl (map-append worth) (exactly-one s (is_of S m t) c.args.wanted.now tells);
            those_of = λ t p agrees covers. given t (those p) refl (those-joined p)
                (those-of-one s (is_of S m t) c.args.wanted.now p agrees covers);
          },
    ))
    c.add_slots.ensures
