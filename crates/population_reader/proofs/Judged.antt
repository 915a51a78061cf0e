-- A file of which nothing is wrong, by its tables.
use Rattle.std.specs.Prelude.{◌≡◌, ℕ, zero, suc, ◌<◌, ◌≤◌, List, [], ◌∷◌, length, map, Option, None, Some, slice_get, ◌⊎◌}
use Rattle.std.proofs.Common.{refl, sym, ap, subst, ◌∙◌, arith}
use Rattle.express_syntax.specs.Schemas.{Schema}
use Rattle.express_syntax.specs.Profile.{Every}
use Rattle.schema_explicit_attributes.specs.Places.{all_places}
use Rattle.step_structures.specs.Trees as trees
use Rattle.step_structures.specs.Trees.{Trees, none, one, ExchangeRow}
use Rattle.step_exchange.specs.declared.structure.Exchange.{Exchange}
use Rattle.step_exchange.specs.Exchanges.{structure}
use Rattle.step_exchange.specs.Sections.{sections_of}
use Rattle.step_values.specs.steps.Building.{Kept}
use Rattle.step_values.specs.AgreementTests.{value_count}
use Rattle.step_values.specs.steps.Targets.{LeadTo, ReferTo}
use Rattle.step_values.specs.Values.{Values}
use Rattle.step_values.specs.Views.{all_of}
use Rattle.population_rows.specs.Index.{found, place_of}
use Rattle.schema_semantics.specs.Names.{Name}
use Rattle.schema_semantics.specs.Attributes.{Place}
use Rattle.schema_semantics.specs.Faults.{IsResolved}
use Rattle.conformance.specs.Bases.{Domain}
use Rattle.conformance.specs.Entities.{Entities, AreEntities, records, parameters}
use Rattle.conformance.specs.ParameterFits.{Target, absent}
use Rattle.conformance.specs.Findings.{findings, target_in}
use Rattle.conformance.specs.Populations.{population_of, instances_from}
use Rattle.population_rows.specs.declared.form.SlotForm.{SlotForm}
use Rattle.population_rows.specs.declared.form.Form.{Form}
use Rattle.population_forms.specs.steps.Forms.{AreSlotsOf}
use Rattle.parameter_fits.specs.steps.References.{IsFound, AreFound}
use Rattle.parameter_fits.proofs.Pointwise.{places_stand}
use Rattle.population_findings.specs.steps.Rows.{rows_in, AreRowsOf, HaveForms, AreNumbered as AreRowsNumbered}
use Rattle.population_rows.specs.declared.rows.Rows.{Rows}
use Rattle.step_exchange.proofs.Named.{names-are, rows-are}
use Rattle.typed_populations.specs.PopulationTables.{form_among, slot_count, ArePlaced, HaveEntities, AreNumbered, HaveSlots, IsWhole}
use Rattle.typed_populations.specs.Rows.{instances_seen, section_numbers}
use Rattle.population_reader.specs.steps.Making.{AreRowsReady, values_by, row_by, rows_by}
use Rattle.population_reader.proofs.Clean.{HasClean, AreClean, absent-or-found, last-none, rows-clean, rows-ready}
use Rattle.population_reader.proofs.Entities.{form-entities}
use Rattle.population_reader.proofs.Populating.{population-is}

placed-at : {A : Type 0} (xs : List A) (i : ℕ) (x : A) → slice_get xs i ≡ Some x → i < length xs
placed-at [] i x e = absurd (cc)
placed-at (y ∷ xs) zero x e = omega arith
placed-at (y ∷ xs) (suc i) x e = let more = placed-at xs i x e in omega (arith, more)

have-length : (s : Schema) (en : Entities) (t : Rows) (rs : List ExchangeRow) (os : List (Option ℕ)) → HaveForms s en t rs os
    → length os ≡ length rs
have-length s en t [] [] h = refl
have-length s en t [] (o ∷ os) h = absurd h
have-length s en t (r ∷ rs) [] h = absurd h
have-length s en t (r ∷ rs) (o ∷ os) h = let more = have-length s en t rs os h.1 in omega (arith, more)

made-length : (s : Schema) (d : Domain) (forms : List Form) (rs : List ExchangeRow) (os : List (Option ℕ))
    → length os ≡ length rs → length (rows_by s d forms rs os) ≡ length rs
made-length s d forms [] os h = refl
made-length s d forms (r ∷ rs) [] h = absurd (omega (arith, h))
made-length s d forms (r ∷ rs) (o ∷ os) h =
    let more = made-length s d forms rs os (omega (arith, h)) in omega (arith, more)

values-few : (s : Schema) (d : Domain) (xs : List SlotForm) (ts : Trees)
    → value_count (all_of (values_by s d xs ts)) ≤ length xs
values-few s d [] ts = omega arith
values-few s d (x ∷ xs) none = omega arith
values-few s d (x ∷ xs) (one t ts) = let more = values-few s d xs ts in omega (arith, more)

row-few : (s : Schema) (d : Domain) (o : Option Form) (f : trees.Form) → value_count (row_by s d o f) ≤ slot_count o
row-few s d None f = omega arith
row-few s d (Some x) f = values-few s d x.slots.items (parameters (records f))

rows-few : (s : Schema) (d : Domain) (forms : List Form) (rs : List ExchangeRow) (os : List (Option ℕ))
    → HaveSlots forms os (rows_by s d forms rs os)
rows-few s d forms [] [] = tt
rows-few s d forms [] (o ∷ os) = tt
rows-few s d forms (r ∷ rs) [] = tt
rows-few s d forms (r ∷ rs) (o ∷ os) = (row-few s d (form_among forms o) r.form, rows-few s d forms rs os)

forms-numbered : (s : Schema) (forms : List Form) → AreRowsNumbered s (map (λ (x : Form). x.types.items) forms)
    → Every (AreNumbered s) forms
forms-numbered s [] h = tt
forms-numbered s (x ∷ forms) h = (h.0, forms-numbered s forms h.1)

names-length : (rs : List ExchangeRow) → length (map (λ (r : ExchangeRow). r.name) rs) ≡ length rs
names-length [] = refl
names-length (r ∷ rs) = let more = names-length rs in omega (arith, more)

module _ (s : Schema) (d : Domain) (en : Entities) where
  slots-placed : (types : List Name) (ps : List Place) (xs : List SlotForm) → AreSlotsOf s en types ps xs
      → Every (λ (y : SlotForm). y.place < length (all_places s)) xs
  slots-placed types [] [] h = tt
  slots-placed types [] (x ∷ xs) h = absurd h
  slots-placed types (p ∷ ps) [] h = tt
  slots-placed types (p ∷ ps) (x ∷ xs) h = (placed-at (all_places s) x.place p h.0.0, slots-placed types ps xs h.1)

  module _ (x : Exchange) (t : Rows) (rows : AreRowsOf s en (rows_in x) t) where
    targets : ℕ → Target
    targets = target_in s d en (rows_in x)

    leads : (y : ℕ) → (targets y ≡ absent) ⊎ IsFound (found t.index) y
    unfolding targets
    leads = absent-or-found s d en (rows_in x) (found t.index) rows.index

    row-placed : (r : ExchangeRow) (o : Option ℕ) → HasClean s d en targets (found t.index) leads t.forms.items r o
        → ArePlaced s (form_among t.forms.items o)
    row-placed r o (f, at, is, types, fits) = subst (ArePlaced s) (sym at) (slots-placed _ _ f.slots.items is.slots)

    all-placed : (rs : List ExchangeRow) (os : List (Option ℕ))
        → AreClean s d en targets (found t.index) leads t.forms.items rs os
        → Every (λ o. ArePlaced s (form_among t.forms.items o)) os
    all-placed [] [] h = tt
    all-placed [] (o ∷ os) h = absurd h
    all-placed (r ∷ rs) [] h = tt
    all-placed (r ∷ rs) (o ∷ os) h = (row-placed r o h.0, all-placed rs os h.1)

    row-entities : IsResolved s → (r : ExchangeRow) (o : Option ℕ)
        → HasClean s d en targets (found t.index) leads t.forms.items r o → HaveEntities s (form_among t.forms.items o)
    row-entities resolved r o (f, at, is, types, fits) =
        subst (HaveEntities s) (sym at) (form-entities s resolved en r.form f is)

    all-entities : IsResolved s → (rs : List ExchangeRow) (os : List (Option ℕ))
        → AreClean s d en targets (found t.index) leads t.forms.items rs os
        → Every (λ o. HaveEntities s (form_among t.forms.items o)) os
    all-entities resolved [] [] h = tt
    all-entities resolved [] (o ∷ os) h = absurd h
    all-entities resolved (r ∷ rs) [] h = tt
    all-entities resolved (r ∷ rs) (o ∷ os) h = (row-entities resolved r o h.0, all-entities resolved rs os h.1)

    pub index-names : (y : ℕ) → found t.index y ≡ place_of x.names y
    index-names y = rows.index y ∙ ap (λ ns. place_of ns y) (names-are x)

    pub names-found : AreFound x.names (found t.index)
    names-found = places_stand x.names (found t.index) index-names

    pub as-many-forms : length t.form_of.items ≡ length x.names
    as-many-forms =
        have-length s en t (rows_in x) t.form_of.items rows.forms
        ∙ sym (names-length (rows_in x)) ∙ ap length (names-are x)

    module _ (others : List Name) (none : findings s d en others (structure x) ≡ []) where
      clean : AreClean s d en targets (found t.index) leads t.forms.items (rows_in x) t.form_of.items
      unfolding targets
      clean = rows-clean s d en targets (found t.index) leads t (rows_in x) t.form_of.items rows.forms (last-none _ _ none)

      pub rows-are-ready : IsResolved s → AreEntities s en
          → AreRowsReady s (found t.index) t.forms.items (rows_in x) t.form_of.items
      rows-are-ready resolved are =
          rows-ready s d en targets (found t.index) leads resolved are t.forms.items (rows_in x) t.form_of.items clean

      module _ (rows-now : List Values) (made : rows-now ≡ rows_by s d t.forms.items (rows_in x) t.form_of.items) where
        pub seen-is : instances_seen s t.forms.items x.names (section_numbers 0 0 x.sections.items) t.form_of.items rows-now
            ≡ population_of s d en (structure x)
        seen-is =
            (λ k. instances_seen s t.forms.items (sym (names-are x) k) (section_numbers 0 0 x.sections.items)
            t.form_of.items (made k))
            ∙ population-is s d en targets (found t.index) leads t.forms.items x.sections.items (rows_in x)
            t.form_of.items clean
            ∙ ap (λ rs. instances_from s d en 0 (sections_of 0 x.sections.items rs)) (rows-are x)

      module _ (now : Kept) (made : now.rows ≡ rows_by s d t.forms.items (rows_in x) t.form_of.items)
          (led : LeadTo x.names now.targets) (refers : ReferTo x.names now.rows) where
        pub all-whole : IsResolved s → IsWhole s x.names t now
        all-whole resolved = record {
          index = index-names;
          forms = as-many-forms;
          values = ap length made
              ∙ made-length s d t.forms.items (rows_in x) t.form_of.items
              (have-length s en t (rows_in x) t.form_of.items rows.forms)
              ∙ sym (names-length (rows_in x)) ∙ ap length (names-are x);
          placed = all-placed (rows_in x) t.form_of.items clean;
          entities = all-entities resolved (rows_in x) t.form_of.items clean;
          numbered = forms-numbered s t.forms.items (subst (AreRowsNumbered s) (sym rows.types) rows.numbered);
          slots = subst (HaveSlots t.forms.items t.form_of.items) (sym made)
              (rows-few s d t.forms.items (rows_in x) t.form_of.items);
          leads = led;
          refers = refers;
        }
