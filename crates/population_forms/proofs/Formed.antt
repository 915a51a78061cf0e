-- Forms, by what is marked.
use Rattle.std.specs.Prelude.{◌≡◌, ℕ, ◌&&◌, not, Bool, true, List, [], ◌∷◌, map, length, Some, slice_get, eqb, ◌⊎◌}
use Rattle.std.specs.List.{AllZip, concat, filter}
use Rattle.std.proofs.Common.{refl, inl, inr, ap, sym, subst, ◌∙◌}
use Rattle.std.proofs.lemmas.List.{length-map}
use Rattle.graphs.specs.Graphs.{graph_of, has, next}
use Rattle.step_structures.specs.Trees.{Record, Form, internal, external}
use Rattle.express_syntax.specs.Schemas.{Schema, entity}
use Rattle.schema_semantics.specs.Names.{Name, IsEntity}
use Rattle.schema_semantics.specs.Attributes.{Place, IsPlaces}
use Rattle.schema_semantics.proofs.Recursion.{make_places, solutions-are-one}
use Rattle.schema_names.specs.Numbers.{HasNumber, AreAt}
use Rattle.schema_names.specs.Schemas.{the_schema}
use Rattle.schema_names.proofs.Items.{joined-at, row-at}
use Rattle.schema_explicit_attributes.specs.Places.{places_in, all_places}
use Rattle.schema_underlying_types.specs.BaseViews.{name_at}
use Rattle.conformance.specs.ParameterFits.{is_listed, entity_names}
use Rattle.conformance.specs.Entities.{Entities, AreEntities, named_entity, own_in, own_places_of, types_of, places_of, how_many, abstract_leaves, missing_supertypes, broken_one_ofs}
use Rattle.population_forms.specs.declared.knowledge.Knowledge.{Knowledge}
use Rattle.population_rows.specs.declared.form.Form.{Form as NumberedForm}
use Rattle.population_forms.specs.steps.Knowing.{AreKnown}
use Rattle.population_forms.specs.steps.Forms.{NameEntities, counts_of, AreSlotsOf, IsFormOf}
use Rattle.population_forms.specs.steps.Marked.{AreSorted, has_two, is_above, is_kind, is_abstract_at}
use Rattle.population_forms.specs.steps.Slots.{IsSlotAt}
use Rattle.population_forms.specs.steps.Making.{IsForm}
use Rattle.population_forms.proofs.Naming.{same-number, name-at, has-own-name, entity-at, AreNumbered, among-is}
use Rattle.population_forms.proofs.Kindred.{either, above-entity, kind-is}
use Rattle.population_forms.proofs.Typed.{IsNumberOfEntity, rows-are, row, row-names, row-entities, row-numbered}
use Rattle.population_forms.proofs.Breaking.{abstract-is, missing-is, broken-is}
use Rattle.population_forms.proofs.Slotted.{slots-are}

-- as many numbers as items
as-many : {A : Type 0} (all : List A) (row : List ℕ) (xs : List A) → AreAt all row xs → length row ≡ length xs
as-many all row xs h = sym (length-map row (slice_get all)) ∙ ap length h ∙ length-map xs Some

module _ (k : Knowledge) (known : AreKnown k) (en : Entities) (g : AreEntities (the_schema k.names.now) en) where
  abbrev s : Schema
  s = the_schema k.names.now

  pub form-is : (test : Name → Bool) (types : List ℕ) → types ≡ row s known.resolved test
      → (parameters places : List ℕ) (x : NumberedForm) → IsForm k types parameters places x → (f : Form)
      → filter test (entity_names s) ≡ types_of s en f → parameters ≡ counts_of s en f
      → AreAt (all_places s) places (places_of s en f) → IsFormOf s en f x
  form-is test types on parameters places x h f same counts at = record {
    types = ap (map (name_at s)) rows ∙ row-names s known.resolved test ∙ same;
    numbered = subst (AreNumbered s) (sym rows) (row-numbered s known.resolved test);
    abstract_leaves = h.broken.abstract_leaves
        ∙ ap (how_many (λ i. not (has h.supertypes i) && is_abstract_at s i)) on
        ∙ abstract-is s known.resolved (graph_of k.above.now) known.above en g test h.supertypes above
        ∙ ap (abstract_leaves s en) same;
    missing_supertypes = h.broken.missing_supertypes
        ∙ ap (λ ts. how_many (λ i. not (has ts i)) h.supertypes) on
        ∙ missing-is s known.resolved (graph_of k.above.now) known.above en g test h.supertypes above
        ∙ ap (missing_supertypes s en) same;
    broken_one_ofs = h.broken.broken_one_ofs
        ∙ ap (λ ts. how_many (has_two ts) (graph_of k.one_ofs.now)) on
        ∙ broken-is s known.resolved (graph_of k.above.now) known.above en g test h.supertypes above (graph_of k.one_ofs.now)
        known.one_ofs
        ∙ ap (broken_one_ofs s en) same;
    counts = h.counts ∙ counts;
    slots = subst (λ ts. AreSlotsOf s en ts (places_of s en f) x.slots.items)
        (row-names s known.resolved test ∙ same)
        (slots-are s known.resolved k.uses.now known.uses en g (row s known.resolved test)
        (row-entities s known.resolved test) (row-numbered s known.resolved test) places (places_of s en f)
        x.slots.items at (subst (λ xs. AllZip (IsSlotAt k.uses.now xs) places x.slots.items) on h.slots));
  }
    where
      rows : x.types.items ≡ row s known.resolved test
      rows = h.types ∙ on

      above : AreSorted (is_above (graph_of k.above.now) (row s known.resolved test)) h.supertypes
      above = subst (λ xs. AreSorted (is_above (graph_of k.above.now) xs) h.supertypes) on h.above

  -- of an internally mapped instance
  kinds-on : (n : Name) (i : ℕ) → IsEntity s n → HasNumber s n i → (types : List ℕ)
      → AreSorted (is_kind (graph_of k.above.now) i) types → types ≡ row s known.resolved (en.is_kind_of n)
  kinds-on n i e l types h =
      rows-are s known.resolved (en.is_kind_of n) (is_kind (graph_of k.above.now) i) types
      (λ m j f o. sym (kind-is s known.resolved (graph_of k.above.now) known.above en g n m i j l o))
      (λ j t. only j (either (eqb i j) (has (next (graph_of k.above.now) i) j) t)) h
    where
      only : (j : ℕ) → (eqb i j ≡ true) ⊎ (has (next (graph_of k.above.now) i) j ≡ true)
          → IsNumberOfEntity s known.resolved j
      only j (inl same) = (n, e, subst (HasNumber s n) (same-number i j same) l)
      only j (inr t) = above-entity s known.resolved (graph_of k.above.now) known.above n i j l t

  pub internal-is : (r : Record) (i : ℕ) → NameEntities s (r ∷ []) (i ∷ []) → (types : List ℕ)
      → AreSorted (is_kind (graph_of k.above.now) i) types → (parameters places : List ℕ)
      → parameters ≡ length places ∷ [] → places ≡ next (graph_of k.places.now) i → (x : NumberedForm)
      → IsForm k types parameters places x → IsFormOf s en (internal r) x
  internal-is r i ((e, l), done) types h parameters places count is x made =
      by (known.places (named_entity r) i e l)
    where
      by : ((ps : List Place) × IsPlaces s (named_entity r) ps
          × AreAt (all_places s) (next (graph_of k.places.now) i) ps)
          → IsFormOf s en (internal r) x
      by (ps, (ent, f, solves, gives), at) =
          let same : ps ≡ en.places (named_entity r) =
          sym gives ∙ solutions-are-one s known.resolved make_places f en.places solves g.places (named_entity r) e in
          let here : AreAt (all_places s) places (en.places (named_entity r)) =
          subst (λ qs. AreAt (all_places s) places qs) same (subst (λ row. AreAt (all_places s) row ps) (sym is) at) in
          form-is (en.is_kind_of (named_entity r)) types (kinds-on (named_entity r) i e l types h) parameters places x
          made (internal r) refl
          (count ∙ ap (λ c. c ∷ []) (as-many (all_places s) places (en.places (named_entity r)) here)) here

  -- of an externally mapped one
  names-are : (rs : List Record) (is : List ℕ) → NameEntities s rs is → map (name_at s) is ≡ map named_entity rs
  names-are [] [] h = refl
  names-are [] (i ∷ is) h = absurd h
  names-are (r ∷ rs) [] h = absurd h
  names-are (r ∷ rs) (i ∷ is) h =
      ap (λ n. n ∷ map (name_at s) is) (name-at s (named_entity r) i h.0.1)
      ∙ ap (λ ns. named_entity r ∷ ns) (names-are rs is h.1)

  numbers-are : (rs : List Record) (is : List ℕ) → NameEntities s rs is → AreNumbered s is
  numbers-are [] [] h = tt
  numbers-are [] (i ∷ is) h = absurd h
  numbers-are (r ∷ rs) [] h = absurd h
  numbers-are (r ∷ rs) (i ∷ is) h = (has-own-name s (named_entity r) i h.0.1, numbers-are rs is h.1)

  only-entities : (rs : List Record) (is : List ℕ) → NameEntities s rs is → (j : ℕ) → has is j ≡ true
      → IsNumberOfEntity s known.resolved j
  only-entities [] [] h j t = absurd (cc)
  only-entities [] (i ∷ is) h j t = absurd h
  only-entities (r ∷ rs) [] h j t = absurd h
  only-entities (r ∷ rs) (i ∷ is) h j t = by (either (eqb j i) (has is j) t) (only-entities rs is h.1 j)
    where
      by : (eqb j i ≡ true) ⊎ (has is j ≡ true) → (has is j ≡ true → IsNumberOfEntity s known.resolved j)
          → IsNumberOfEntity s known.resolved j
      by (inl same) more =
          (named_entity r, h.0.0, subst (HasNumber s (named_entity r)) (sym (same-number j i same)) h.0.1)
      by (inr behind) more = more behind

  named-on : (rs : List Record) (is : List ℕ) → NameEntities s rs is → (types : List ℕ)
      → AreSorted (has is) types → types ≡ row s known.resolved (λ e. is_listed e (map named_entity rs))
  named-on rs is h types on =
      rows-are s known.resolved (λ e. is_listed e (map named_entity rs)) (has is) types
      (λ m j f o. sym (among-is s m j o is (numbers-are rs is h)) ∙ ap (is_listed m) (names-are rs is h))
      (only-entities rs is h) on

  own-at : (n : Name) (i : ℕ) → IsEntity s n → HasNumber s n i
      → AreAt (all_places s) (next (graph_of k.own.now) i) (own_places_of s n)
  own-at n i (e, at) l =
      subst (λ d. AreAt (all_places s) (next (graph_of k.own.now) i) (own_in d)) (sym at)
      (row-at places_in (all_places s) s.declarations (graph_of k.own.now) i (entity e) known.own
      (entity-at s n i e at l))

  counts-are : (rs : List Record) (is : List ℕ) → NameEntities s rs is
      → map (λ i. length (next (graph_of k.own.now) i)) is ≡ counts_of s en (external rs)
  counts-are [] [] h = refl
  counts-are [] (i ∷ is) h = absurd h
  counts-are (r ∷ rs) [] h = absurd h
  counts-are (r ∷ rs) (i ∷ is) h =
      ap (λ c. c ∷ map (λ j. length (next (graph_of k.own.now) j)) is)
      (as-many (all_places s) (next (graph_of k.own.now) i) (own_places_of s (named_entity r))
      (own-at (named_entity r) i h.0.0 h.0.1))
      ∙ ap (λ cs. length (own_places_of s (named_entity r)) ∷ cs) (counts-are rs is h.1)

  places-are : (rs : List Record) (is : List ℕ) → NameEntities s rs is
      → AreAt (all_places s) (concat (map (next (graph_of k.own.now)) is)) (places_of s en (external rs))
  places-are [] [] h = refl
  places-are [] (i ∷ is) h = absurd h
  places-are (r ∷ rs) [] h = absurd h
  places-are (r ∷ rs) (i ∷ is) h =
      joined-at (all_places s) (next (graph_of k.own.now) i) (concat (map (next (graph_of k.own.now)) is))
      (own_places_of s (named_entity r)) (places_of s en (external rs)) (own-at (named_entity r) i h.0.0 h.0.1)
      (places-are rs is h.1)

  pub external-is : (rs : List Record) (is : List ℕ) → NameEntities s rs is → (types : List ℕ)
      → AreSorted (has is) types → (parameters places : List ℕ)
      → parameters ≡ map (λ i. length (next (graph_of k.own.now) i)) is
      → places ≡ concat (map (next (graph_of k.own.now)) is) → (x : NumberedForm)
      → IsForm k types parameters places x → IsFormOf s en (external rs) x
  external-is rs is h types on parameters places count at x made =
      form-is (λ e. is_listed e (map named_entity rs)) types (named-on rs is h types on) parameters places x made
      (external rs) refl (count ∙ counts-are rs is h)
      (subst (λ row. AreAt (all_places s) row (places_of s en (external rs))) (sym at) (places-are rs is h))
