-- What is known of the instances of a file of which nothing is wrong.
use Rattle.std.specs.Prelude.{◌≡◌, ℕ, zero, suc, ◌==◌, ◌&&◌, Bool, true, false, cond, List, [], ◌∷◌, ◌++◌, map, flat_map, Option, None, Some, ◌⊎◌}
use Rattle.std.specs.Option.{option_map}
use Rattle.std.proofs.Common.{refl, sym, ap, subst, ◌∙◌, inl, inr}
use Rattle.express_syntax.specs.Profile.{Every}
use Rattle.express_syntax.specs.Schemas.{Schema}
use Rattle.schema_semantics.specs.Names.{Name}
use Rattle.schema_semantics.specs.Attributes.{Place}
use Rattle.schema_semantics.specs.Faults.{IsResolved}
use Rattle.step_structures.specs.Words.{name}
use Rattle.step_structures.specs.Trees.{Tree, leaf, typed, group, Trees, none, one, ExchangeRow}
use Rattle.population_rows.specs.Index.{place_of}
use Rattle.schema_underlying_types.specs.BaseViews.{type_at}
use Rattle.conformance.specs.declared.finding.Finding.{Finding}
use Rattle.conformance.specs.declared.finding.FindingKind.{FindingKind}
use Rattle.conformance.specs.declared.finding.FindingKind.TheVariants.{UnknownEntity, AbstractInstance, MissingSupertype, OneOfBroken, ParameterCount, MisplacedStar}
use Rattle.conformance.specs.Bases.{Domain, base}
use Rattle.conformance.specs.Entities.{Entities, AreEntities, records, parameters, types_of, places_of, unknown_entities, abstract_leaves, missing_supertypes, broken_one_ofs, wrong_counts, is_optional, data_types}
use Rattle.conformance.specs.ParameterFits.{Target, absent, first_finding, is_dollar, is_star_or_dollar, misfit}
use Rattle.conformance.specs.Findings.{whole_findings, or_next, at_place, misfit_of, misfit_at, misfits_from, row_findings, target_in, target_form}
use Rattle.population_rows.specs.declared.form.SlotForm.{SlotForm}
use Rattle.population_rows.specs.declared.form.Form.{Form}
use Rattle.population_forms.specs.steps.Forms.{AreSlotsOf, IsSlotOf, IsFormOf}
use Rattle.parameter_fits.specs.steps.References.{IsFound, RefersWithin}
use Rattle.parameter_fits.proofs.Pointwise.{fitting_refers}
use Rattle.population_findings.specs.steps.Rows.{HasTypes, HasFormAmong, HaveForms}
use Rattle.population_rows.specs.declared.rows.Rows.{Rows}
use Rattle.population_findings.proofs.Records.{some-unknown}
use Rattle.typed_populations.specs.PopulationTables.{form_among}
use Rattle.population_reader.specs.steps.Making.{AreReady, IsRowReady, AreRowsReady}
use Rattle.population_reader.proofs.Typed.{HasType, all-typed}

-- no list of some that are joined has an item
pub first-none : {A : Type 0} (xs ys : List A) → xs ++ ys ≡ [] → xs ≡ []
first-none [] ys e = refl
first-none (x ∷ xs) ys e = absurd (cc)

pub last-none : {A : Type 0} (xs ys : List A) → xs ++ ys ≡ [] → ys ≡ []
last-none [] ys e = e
last-none (x ∷ xs) ys e = absurd (cc)

next-first : (xs ys : List Finding) → or_next xs ys ≡ [] → xs ≡ []
next-first [] ys e = refl
next-first (x ∷ xs) ys e = absurd (cc)

next-last : (xs ys : List Finding) → or_next xs ys ≡ [] → ys ≡ []
next-last [] ys e = e
next-last (x ∷ xs) ys e = absurd (cc)

no-times : (n : ℕ) (kind : FindingKind) (k : ℕ) → whole_findings n kind k ≡ [] → k ≡ 0
no-times n kind zero e = refl
no-times n kind (suc k) e = absurd (cc)

no-kind : (n k : ℕ) (o : Option FindingKind) → at_place n k o ≡ [] → o ≡ None
no-kind n k None e = refl
no-kind n k (Some kind) e = absurd (cc)

or-first : (f g : Option FindingKind) → first_finding f g ≡ None → f ≡ None
or-first None g e = refl
or-first (Some k) g e = absurd (cc)

dollar-refers : (find : ℕ → Option ℕ) (x : Tree) → is_dollar x ≡ true → RefersWithin find x
dollar-refers find (leaf (name y t)) e = absurd (cc)
dollar-refers find (leaf w) e = tt
dollar-refers find (typed word x) e = absurd (cc)
dollar-refers find (group xs) e = absurd (cc)

-- what isn't found is absent
absent-so : (s : Schema) (d : Domain) (en : Entities) (rs : List ExchangeRow) (y : ℕ)
    → place_of (map (λ (r : ExchangeRow). r.name) rs) y ≡ None → target_in s d en rs y ≡ absent
absent-so s d en [] y e = refl
absent-so s d en (r ∷ rs) y e = by (r.name == y) (absent-so s d en rs y) e
  where
    none-behind : (o : Option ℕ) → option_map suc o ≡ None → o ≡ None
    none-behind None h = refl
    none-behind (Some k) h = absurd (cc)

    by : (b : Bool) → (place_of (map (λ (q : ExchangeRow). q.name) rs) y ≡ None → target_in s d en rs y ≡ absent)
        → cond b (Some 0) (option_map suc (place_of (map (λ (q : ExchangeRow). q.name) rs) y)) ≡ None
        → cond b (target_form s d en r.form) (target_in s d en rs y) ≡ absent
    by true more h = absurd (cc)
    by false more h = more (none-behind (place_of (map (λ (q : ExchangeRow). q.name) rs) y) h)

pub absent-or-found : (s : Schema) (d : Domain) (en : Entities) (rs : List ExchangeRow) (find : ℕ → Option ℕ)
    → ((y : ℕ) → find y ≡ place_of (map (λ (r : ExchangeRow). r.name) rs) y) → (y : ℕ)
    → (target_in s d en rs y ≡ absent) ⊎ IsFound find y
absent-or-found s d en rs find same y = go (find y) refl
  where
    go : (o : Option ℕ) → find y ≡ o → (target_in s d en rs y ≡ absent) ⊎ IsFound find y
    go None e = inl (absent-so s d en rs y (sym (same y) ∙ e))
    go (Some row) e = inr (row, e)

module _ (s : Schema) (d : Domain) (en : Entities) (target : ℕ → Target) (find : ℕ → Option ℕ)
    (leads : (y : ℕ) → (target y ≡ absent) ⊎ IsFound find y) where
  -- the parameter of an attribute that isn't derived
  asked-refers : (k : ℕ) (ks : List ℕ) (x : Tree) → misfit_of s d en target (map (type_at s) (k ∷ ks)) x ≡ None
      → RefersWithin find x
  asked-refers k ks x e =
      fitting_refers s d target find leads (base d (type_at s k)) x
      (or-first (misfit s d target (base d (type_at s k)) x) (misfit_of s d en target (map (type_at s) ks) x) e)

  slot-refers : (types : List Name) (p : Place) (slot : SlotForm) (x : Tree) → IsSlotOf s en types p slot
      → misfit_at s d en target types p x ≡ None → slot.is_derived ≡ false → (k : ℕ) (ks : List ℕ)
      → slot.data_types.items ≡ k ∷ ks → RefersWithin find x
  slot-refers types p slot x is e derived k ks items =
      by (is_dollar x) refl (is_optional s en types p) (sym by-types ∙ e)
    where
      by-types : misfit_at s d en target types p x
          ≡ cond (is_dollar x && is_optional s en types p) None
          (misfit_of s d en target (map (type_at s) (k ∷ ks)) x)
      by-types =
          ap (λ b. cond b (cond (is_star_or_dollar x) None (Some MisplacedStar))
          (cond (is_dollar x && is_optional s en types p) None (misfit_of s d en target (data_types s en types p) x)))
          (sym is.derived ∙ derived)
          ∙ ap (λ l. cond (is_dollar x && is_optional s en types p) None (misfit_of s d en target l x))
          (sym is.data_types ∙ ap (map (type_at s)) items)

      by : (b : Bool) → is_dollar x ≡ b → (o : Bool)
          → cond (b && o) None (misfit_of s d en target (map (type_at s) (k ∷ ks)) x) ≡ None → RefersWithin find x
      by true dollar o h = dollar-refers find x dollar
      by false dollar o h = asked-refers k ks x h

  pub slots-ready : (n from : ℕ) (types : List Name) (ps : List Place) (slots : List SlotForm) (ts : Trees)
      → AreSlotsOf s en types ps slots → Every (HasType s en types) ps
      → misfits_from s d en target n from types ps ts ≡ [] → AreReady s find slots ts
  slots-ready n from types ps [] ts h k e = tt
  slots-ready n from types [] (x ∷ xs) ts h k e = absurd h
  slots-ready n from types (p ∷ ps) (x ∷ xs) none h k e = tt
  slots-ready n from types (p ∷ ps) (x ∷ xs) (one t ts) h k e =
      let fits = no-kind n (suc from) (misfit_at s d en target types p t) (first-none
      (at_place n (suc from) (misfit_at s d en target types p t))
      (misfits_from s d en target n (suc from) types ps ts) e) in (
        record {
          known = h.0.1.known;
          typed = λ derived free. k.0 (sym h.0.1.data_types ∙ ap (map (type_at s)) free);
          within = λ derived j js items. slot-refers types p x t h.0.1 fits derived j js items;
        },
        slots-ready n (suc from) types ps xs ts h.1 k.1
            (last-none (at_place n (suc from) (misfit_at s d en target types p t))
            (misfits_from s d en target n (suc from) types ps ts) e),
      )

  -- an instance has a form, its keywords are entities, and its parameters fit
  abbrev pub HasClean : List Form → ExchangeRow → Option ℕ → Type 0
  HasClean forms r o =
      (x : Form) × (form_among forms o ≡ Some x) × IsFormOf s en r.form x × HasTypes s r.form
      × (misfits_from s d en target r.name 0 (types_of s en r.form) (places_of s en r.form)
      (parameters (records r.form)) ≡ [])

  abbrev types-of : ExchangeRow → List Finding
  types-of r =
      whole_findings r.name AbstractInstance (abstract_leaves s en (types_of s en r.form))
      ++ whole_findings r.name MissingSupertype (missing_supertypes s en (types_of s en r.form))
      ++ whole_findings r.name OneOfBroken (broken_one_ofs s en (types_of s en r.form))

  abbrev told-of : ExchangeRow → List Finding
  told-of r =
      misfits_from s d en target r.name 0 (types_of s en r.form) (places_of s en r.form) (parameters (records r.form))

  pub row-clean : (forms : List Form) (r : ExchangeRow) (o : Option ℕ) → HasFormAmong s en forms r.form o
      → row_findings s d en target r ≡ [] → HasClean forms r o
  row-clean forms r None h e =
      let some = some-unknown s (records r.form) h in
      absurd (let z = sym some.1 ∙ no-times r.name UnknownEntity (unknown_entities s en r.form)
      (next-first (whole_findings r.name UnknownEntity (unknown_entities s en r.form))
      (or_next (types-of r) (or_next (whole_findings r.name ParameterCount (wrong_counts s en r.form)) (told-of r))) e) in cc)
  row-clean forms r (Some n) (types, x, at, is) e = (
    x,
    at,
    is,
    types,
    next-last (whole_findings r.name ParameterCount (wrong_counts s en r.form)) (told-of r)
        (next-last (types-of r) (or_next (whole_findings r.name ParameterCount (wrong_counts s en r.form)) (told-of r))
        (next-last (whole_findings r.name UnknownEntity (unknown_entities s en r.form))
        (or_next (types-of r) (or_next (whole_findings r.name ParameterCount (wrong_counts s en r.form)) (told-of r))) e)),
  )

  abbrev pub AreClean : List Form → List ExchangeRow → List (Option ℕ) → Type 0
  AreClean forms [] [] = Unit {0}
  AreClean forms (r ∷ rs) (o ∷ os) = HasClean forms r o × AreClean forms rs os
  AreClean forms rs os = ⊥

  pub rows-clean : (t : Rows) (rs : List ExchangeRow) (os : List (Option ℕ)) → HaveForms s en t rs os
      → flat_map (row_findings s d en target) rs ≡ [] → AreClean t.forms.items rs os
  rows-clean t [] [] h e = tt
  rows-clean t [] (o ∷ os) h e = absurd h
  rows-clean t (r ∷ rs) [] h e = absurd h
  rows-clean t (r ∷ rs) (o ∷ os) h e = (
    row-clean t.forms.items r o h.0
        (first-none (row_findings s d en target r) (flat_map (row_findings s d en target) rs) e),
    rows-clean t rs os h.1
        (last-none (row_findings s d en target r) (flat_map (row_findings s d en target) rs) e),
  )

  -- their values can be made, where the names of the schema are resolved
  module _ (resolved : IsResolved s) (are : AreEntities s en) where
    row-is-ready : (forms : List Form) (r : ExchangeRow) (o : Option ℕ) → HasClean forms r o
        → IsRowReady s find (form_among forms o) r.form
    row-is-ready forms r o (x, at, is, types, fits) =
        subst (λ g. IsRowReady s find g r.form) (sym at)
        (slots-ready r.name 0 (types_of s en r.form) (places_of s en r.form) x.slots.items (parameters (records r.form))
        is.slots (all-typed s en resolved are r.form types) fits)

    pub rows-ready : (forms : List Form) (rs : List ExchangeRow) (os : List (Option ℕ)) → AreClean forms rs os
        → AreRowsReady s find forms rs os
    rows-ready forms [] os h = tt
    rows-ready forms (r ∷ rs) [] h = tt
    rows-ready forms (r ∷ rs) (o ∷ os) h = (row-is-ready forms r o h.0, rows-ready forms rs os h.1)
