-- Values and attributes that are passed, since nothing that is sought can be there.
use Rattle.std.specs.Prelude.{◌≡◌, ℕ, zero, suc, ◌+◌, Bool, true, false, ◌&&◌, cond, List, [], ◌∷◌, ◌++◌, map, Option, None, Some, is_none}
use Rattle.std.proofs.Common.{refl, sym, ap, subst, ◌∙◌}
use Rattle.step_values.specs.steps.Slots.{nth, kind_of}
use Rattle.step_values.specs.Values as values
use Rattle.step_values.specs.Values.{Value, leaf, reference, Values, none, more}
use Rattle.step_values.proofs.Walks.{after, after_at}
use Rattle.schema_underlying_types.specs.declared.base.Base.{Base}
use Rattle.schema_underlying_types.specs.BaseEntries.{entry}
use Rattle.schema_redeclarations.specs.declared.uses.AttributeUse.{AttributeUse}
use Rattle.schema_redeclarations.specs.declared.uses.Uses.{Uses}
use Rattle.population_rows.specs.declared.form.Form.{Form}
use Rattle.population_rows.specs.declared.form.SlotForm.{SlotForm}
use Rattle.population_forms.specs.steps.Slots.{uses_by}
use Rattle.typed_populations.specs.PopulationTables.{form_among, types_by_form}
use Rattle.express_logic.specs.Data.{Datum}
use Rattle.rule_values.specs.TableValues.{element_base, coded_datum}
use Rattle.rule_settings.specs.declared.setting.Setting.{Setting}
use Rattle.rule_plans.specs.declared.value_search.Sought.{Sought}
use Rattle.rule_plans.specs.declared.value_search.Seeker.{Seeker}
use Rattle.rule_plans.specs.declared.values.Asked.{Asked}
use Rattle.rule_plans.specs.steps.Coded.{is_whole, told_by, by_number, elements_of, coded_itself, coded_values, coded_each, coded_uses, coded_place, slots_in}
use Rattle.rule_plans.specs.steps.Flat.{is_plain, are_plain, is_flat, is_flat_at}
use Rattle.rule_plans.specs.steps.Unsought.{is_unsought, all_unsought, is_unsought_place, unsought_of, AreUnsought, all_wholly_unsought, is_unsought_form, says_form, table_by, seeker_in, forms_in, unsought_in, unsought_forms_in, AreRight, IsRight}
use Rattle.rule_plans.proofs.Walking.{nothing-there}

pub first-of : (a b : Bool) → (a && b) ≡ true → a ≡ true
first-of true b e = refl
first-of false b e = e

pub second-of : (a b : Bool) → (a && b) ≡ true → b ≡ true
second-of true b e = e
second-of false b e = absurd (cc)

-- values in turn: what is left decides
pub plain-next : (vs : Values) (i : ℕ) (v : Value) → nth vs i ≡ Some v
    → are_plain (after i vs) ≡ (is_plain (kind_of v) && are_plain (after (i + 1) vs))
plain-next vs i v at = ap are_plain (after_at vs i v at)

module _ (x : Seeker) where
  -- nothing is told by a data type that isn't sought
  told-none : (c : Bool) (o : Option ℕ) (d : Datum) → is_none o ≡ true → cond c (told_by o d) [] ≡ []
  told-none true None d e = refl
  told-none true (Some i) d e = absurd (cc)
  told-none false o d e = refl

  itself-none : (o : Option ℕ) (b : Base) (v : Value) → is_none o ≡ true → coded_itself x o b v ≡ []
  itself-none o b v e = told-none (is_whole (kind_of v)) o (coded_datum x.types.now b v) e

  plain-none : (q : Sought) (b : Base) (v : Value) → is_none q.declared ≡ true → is_plain (kind_of v) ≡ true
      → coded_values x q b v ≡ []
  plain-none q b (leaf a) e k = itself-none q.declared b (leaf a) e
  plain-none q b (reference y) e k = itself-none q.declared b (reference y) e
  plain-none q b (values.typed n v) e k = absurd (cc)
  plain-none q b (values.sequence vs) e k = absurd (cc)
  plain-none q b (values.bag vs) e k = absurd (cc)

  each-none : (q : Sought) (b : Base) (vs : Values) → is_none q.declared ≡ true → are_plain vs ≡ true
      → coded_each x q b vs ≡ []
  each-none q b none e k = refl
  each-none q b (more v vs) e k =
      λ i. plain-none q b v e (first-of (is_plain (kind_of v)) (are_plain vs) k) i
      ++ each-none q b vs e (second-of (is_plain (kind_of v)) (are_plain vs) k) i

  flat-none : (q : Sought) (b : Base) (v : Value) → is_none q.declared ≡ true
      → is_none (elements_of x q).declared ≡ true → is_flat v ≡ true → coded_values x q b v ≡ []
  flat-none q b (leaf a) e h k = itself-none q.declared b (leaf a) e
  flat-none q b (reference y) e h k = itself-none q.declared b (reference y) e
  flat-none q b (values.typed n v) e h k = absurd (cc)
  flat-none q b (values.sequence vs) e h k =
      λ i. itself-none q.declared b (values.sequence vs) e i
      ++ each-none (elements_of x q) (element_base x.types.now b) vs h k i
  flat-none q b (values.bag vs) e h k =
      λ i. itself-none q.declared b (values.bag vs) e i
      ++ each-none (elements_of x q) (element_base x.types.now b) vs h k i

  uses-none : (b : Base) (v : Value) (us : List AttributeUse) → is_flat v ≡ true → all_unsought x us ≡ true
      → coded_uses x b (Some v) us ≡ []
  uses-none b v [] k e = refl
  uses-none b v (u ∷ us) k e =
      let q : Sought = by_number x u.data_type in
      let here : is_unsought x u.data_type ≡ true = first-of (is_unsought x u.data_type) (all_unsought x us) e in
      λ i. flat-none q b v (first-of (is_none q.declared) (is_none (elements_of x q).declared) here)
      (second-of (is_none q.declared) (is_none (elements_of x q).declared) here) k i
      ++ uses-none b v us k (second-of (is_unsought x u.data_type) (all_unsought x us) e) i

  -- nothing that is sought is in a flat value of an attribute by whose data types nothing is
  pub place-none : (k : Asked) (q : ℕ) (o : Option Value) → is_flat_at o ≡ true
      → is_unsought_place x k.uses.now k.types.now q ≡ true → coded_place x k q o ≡ []
  place-none k q None f e = nothing-there x (entry k.declared.now q) (uses_by k.uses.now k.types.now q)
  place-none k q (Some v) f e = uses-none (entry k.declared.now q) v (uses_by k.uses.now k.types.now q) f e

  -- what a table says is so
  said : (t : Uses) (types : List ℕ) (slots : List SlotForm)
      → AreUnsought x t types slots (map (λ (y : SlotForm). is_unsought_place x t types y.place) slots)
  said t types [] i y at e = absurd (cc)
  said t types (z ∷ slots) zero y at e =
      let same : z ≡ y = cc in ap (λ (w : SlotForm). is_unsought_place x t types w.place) (sym same) ∙ e
  said t types (z ∷ slots) (suc i) y at e = said t types slots i y at e

  pub says-nothing : (t : Uses) (types : List ℕ) (slots : List SlotForm) → AreUnsought x t types slots []
  says-nothing t types slots i y at e = absurd (cc)

  pub tables-say : (t : Uses) (forms : List Form) (o : Option ℕ)
      → AreUnsought x t (types_by_form (form_among forms o)) (slots_in (form_among forms o))
      (table_by (map (unsought_of x t) forms) o)
  tables-say t forms None = says-nothing t [] []
  tables-say t [] (Some n) = says-nothing t [] []
  tables-say t (f ∷ forms) (Some zero) = said t f.types.items f.slots.items
  tables-say t (f ∷ forms) (Some (suc n)) = tables-say t forms (Some n)

  pub table-says : (t : Uses) (declared : List Base) (forms : List Form) (o : Option ℕ)
      → says_form (map (is_unsought_form x t declared) forms) o ≡ true
      → all_wholly_unsought x t declared (types_by_form (form_among forms o)) (slots_in (form_among forms o)) ≡ true
  table-says t declared forms None e = refl
  table-says t declared [] (Some n) e = refl
  table-says t declared (f ∷ forms) (Some zero) e = e
  table-says t declared (f ∷ forms) (Some (suc n)) e = table-says t declared forms (Some n) e

  -- the same, of lists that are the same
  pub alike : (t : Uses) (types types2 : List ℕ) (slots slots2 : List SlotForm) (table table2 : List Bool)
      → types ≡ types2 → slots ≡ slots2 → table ≡ table2 → AreUnsought x t types2 slots2 table2
      → AreUnsought x t types slots table
  alike t types types2 slots slots2 table table2 e k h right =
      subst (λ l. AreUnsought x t l slots table) (sym e)
      (subst (λ l. AreUnsought x t types2 l table) (sym k)
      (subst (λ l. AreUnsought x t types2 slots2 l) (sym h) right))

module _ (S : Setting) (wanted : List Bool) where
  pub none-right : AreRight S wanted []
  none-right None = says-nothing (seeker_in S wanted) S.tables.now.uses.now [] []
  none-right (Some n) = says-nothing (seeker_in S wanted) S.tables.now.uses.now
      (types_by_form (form_among (forms_in S) (Some n))) (slots_in (form_among (forms_in S) (Some n)))

  pub tables-right : (tables : List (List Bool)) → tables ≡ unsought_in S wanted → AreRight S wanted tables
  tables-right tables are = subst (AreRight S wanted) (sym are)
      (tables-say (seeker_in S wanted) S.tables.now.uses.now (forms_in S))

  pub table-right : (table : List Bool) → table ≡ unsought_forms_in S wanted → IsRight S wanted table
  table-right table is = subst (IsRight S wanted) (sym is)
      (table-says (seeker_in S wanted) S.tables.now.uses.now S.tables.now.declared.items (forms_in S))
