-- What is asked of the values of attributes, by number.
use Rattle.std.specs.Prelude.{◌≡◌, ℕ, ◌+◌, ◌<◌, ◌==◌, ◌++◌, ◌||◌, Bool, true, false, cond, List, [], ◌∷◌, map, take, length, get_or, slice_get, Some}
use Rattle.std.specs.List.{AllZip, concat, filter, list_any, list_all}
use Rattle.std.proofs.Common.{refl, inl, inr, ap, sym, subst, ◌∙◌}
use Rattle.std.proofs.lemmas.List.{append-nil, take_more, map-append}
use Rattle.std.proofs.lemmas.List.Folds.{concat-append, list_all-map}
use Rattle.graphs.specs.Graphs.{graph_of, has, next}
use Rattle.express_syntax.specs.Schemas.{Schema, DataType}
use Rattle.express_syntax.specs.Profile.{Every}
use Rattle.schema_semantics.specs.Names.{Among}
use Rattle.schema_semantics.specs.Attributes.{Place}
use Rattle.schema_semantics.specs.Faults.{IsResolved}
use Rattle.schema_semantics.proofs.Lists.{from-flat}
use Rattle.schema_names.specs.Numbers.{AreAt}
use Rattle.schema_names.proofs.Items.{front-at, back-at}
use Rattle.schema_explicit_attributes.specs.Places.{all_places}
use Rattle.schema_redeclarations.specs.Uses.{HasPlace, of_place, uses_at, seen, said, AreUses}
use Rattle.schema_redeclarations.specs.declared.uses.AttributeUse.{AttributeUse}
use Rattle.schema_redeclarations.specs.declared.uses.Uses.{Uses}
use Rattle.schema_underlying_types.specs.BaseViews.{name_at, type_at}
use Rattle.schema_underlying_types.specs.Tables.{NamesKnownType}
use Rattle.conformance.specs.Entities.{Entities, AreEntities, is_derived, declarations_by}
use Rattle.population_rows.specs.declared.form.SlotForm.{SlotForm}
use Rattle.population_forms.specs.steps.Slots.{IsSlotAt, uses_by}
use Rattle.population_forms.specs.steps.Forms.{IsSlotOf, AreSlotsOf}
use Rattle.population_forms.proofs.Naming.{AreNumbered}
use Rattle.population_forms.proofs.Typed.{IsNumberOfEntity, own-entity}

zip-joined : {A B : Type 0} (R : A → B → Type 0) (xs : List A) (ys : List B) (x : A) (y : B) → AllZip R xs ys → R x y
    → AllZip R (xs ++ x ∷ []) (ys ++ y ∷ [])
zip-joined R [] [] x y h one = (one, tt)
zip-joined R [] (z ∷ ys) x y h one = absurd h
zip-joined R (z ∷ xs) [] x y h one = absurd h
zip-joined R (z ∷ xs) (w ∷ ys) x y h one = (h.0, zip-joined R xs ys x y h.1 one)

pub zip-more : {B : Type 0} (R : ℕ → B → Type 0) (xs : List ℕ) (k : ℕ) (old new : List B) (y : B) → k < length xs
    → AllZip R (take k xs) old → R (get_or xs k 0) y → new ≡ old ++ y ∷ [] → AllZip R (take (k + 1) xs) new
zip-more R xs k old new y lt h one is =
    subst (λ row. AllZip R row new) (sym (take_more xs k 0 lt))
    (subst (AllZip R (take k xs ++ get_or xs k 0 ∷ [])) (sym is) (zip-joined R (take k xs) old (get_or xs k 0) y h one))

pub concat-more : (f : ℕ → List ℕ) (xs : List ℕ) (k : ℕ) (old new : List ℕ) → k < length xs
    → old ≡ concat (map f (take k xs)) → new ≡ old ++ f (get_or xs k 0) → new ≡ concat (map f (take (k + 1) xs))
concat-more f xs k old new lt h is =
    is ∙ ap (λ row. row ++ f (get_or xs k 0)) h
    ∙ ap (λ row. concat (map f (take k xs)) ++ row) (sym (append-nil (f (get_or xs k 0))))
    ∙ sym (concat-append (map f (take k xs)) (f (get_or xs k 0) ∷ []))
    ∙ ap concat (sym (map-append f (take k xs) (get_or xs k 0 ∷ [])))
    ∙ ap (λ row. concat (map f row)) (sym (take_more xs k 0 lt))

map-map : {A B C : Type 0} (f : A → B) (g : B → C) (xs : List A) → map g (map f xs) ≡ map (λ x. g (f x)) xs
map-map f g [] = refl
map-map f g (x ∷ xs) = ap (λ ys. g (f x) ∷ ys) (map-map f g xs)

every-mapped : {A B : Type 0} (P : B → Type 0) (f : A → B) (xs : List A) → ((x : A) → Among x xs → P (f x))
    → Every P (map f xs)
every-mapped P f [] h = tt
every-mapped P f (x ∷ xs) h = (h x (inl refl), every-mapped P f xs (λ y m. h y (inr m)))

filtered : {A : Type 0} (test : A → Bool) (x : A) (xs : List A) → Among x (filter test xs) → Among x xs
filtered test x [] m = elim m [ ]
filtered test x (y ∷ xs) m = by (test y) m (filtered test x xs)
  where
    by : (b : Bool) → Among x (cond b (y ∷ filter test xs) (filter test xs)) → (Among x (filter test xs) → Among x xs)
        → Among x (y ∷ xs)
    by true (inl e) more = inl e
    by true (inr m) more = inr (more m)
    by false m more = inr (more m)

module _ (s : Schema) (r : IsResolved s) (uses : Uses) (k : AreUses s uses) (en : Entities) (g : AreEntities s en) where
  module _ (p : Place) (q : ℕ) (at : HasPlace s p q) where
    derived-is : (xs : List ℕ) → AreNumbered s xs
        → list_any (λ i. has (next (graph_of uses.derived.items) i) q) xs ≡ is_derived s en (map (name_at s) xs) p
    derived-is [] each = refl
    derived-is (i ∷ xs) each =
        ap (λ b. b || list_any (λ j. has (next (graph_of uses.derived.items) j) q) xs)
        (k.derived en g (name_at s i) i each.0 p q at)
        ∙ ap (λ b. en.derives (name_at s i) p || b) (derived-is xs each.1)

    uses-are : (xs : List ℕ) → Every (IsNumberOfEntity s r) xs
        → map (seen s) (uses_by uses xs q) ≡ map said (declarations_by s en (map (name_at s) xs) p)
    uses-are [] each = refl
    uses-are (i ∷ xs) each =
        let (e, l) = own-entity s r i each.0 in
        map-append (seen s) (of_place q (uses_at uses i)) (uses_by uses xs q)
        ∙ ap (λ ys. ys ++ map (seen s) (uses_by uses xs q)) (k.explicit en g (name_at s i) i e l p q at)
        ∙ ap (λ ys. map said (en.declarations (name_at s i) p) ++ ys) (uses-are xs each.1)
        ∙ sym (map-append said (en.declarations (name_at s i) p) (declarations_by s en (map (name_at s) xs) p))

    slot-is : (xs : List ℕ) → Every (IsNumberOfEntity s r) xs → AreNumbered s xs → (x : SlotForm)
        → IsSlotAt uses xs q x → IsSlotOf s en (map (name_at s) xs) p x
    slot-is xs each numbered x h = record {
      derived = h.derived ∙ derived-is xs numbered;
      optional = h.optional ∙ sym (list_all-map (λ (y : DataType × Bool). y.1) (seen s) (uses_by uses xs q))
          ∙ ap (list_all (λ (y : DataType × Bool). y.1)) (uses-are xs each)
          ∙ list_all-map (λ (y : DataType × Bool). y.1) said (declarations_by s en (map (name_at s) xs) p);
      data_types = ap (map (type_at s)) h.data_types
          ∙ map-map (λ (u : AttributeUse). u.data_type) (type_at s) (uses_by uses xs q)
          ∙ sym (map-map (seen s) (λ (y : DataType × Bool). y.0) (uses_by uses xs q))
          ∙ ap (map (λ (y : DataType × Bool). y.0)) (uses-are xs each)
          ∙ map-map said (λ (y : DataType × Bool). y.0) (declarations_by s en (map (name_at s) xs) p);
      known = subst (Every (λ n. NamesKnownType s (type_at s n))) (sym h.data_types)
          (every-mapped (λ n. NamesKnownType s (type_at s n)) (λ (u : AttributeUse). u.data_type) (uses_by uses xs q)
          (λ u m. known u (from-flat (λ i. of_place q (uses_at uses i)) u xs m)));
    }
      where
        known : (u : AttributeUse) → ((i : ℕ) × Among i xs × Among u (of_place q (uses_at uses i)))
            → NamesKnownType s (type_at s u.data_type)
        known u (i, m, inside) =
            k.known i u (filtered (λ (v : AttributeUse). v.place == q) u (uses_at uses i) inside)

  pub slots-are : (xs : List ℕ) → Every (IsNumberOfEntity s r) xs → AreNumbered s xs → (row : List ℕ) (ps : List Place)
      (found : List SlotForm) → AreAt (all_places s) row ps → AllZip (IsSlotAt uses xs) row found
      → AreSlotsOf s en (map (name_at s) xs) ps found
  slots-are xs each numbered [] [] [] at h = tt
  slots-are xs each numbered [] [] (x ∷ found) at h = absurd h
  slots-are xs each numbered [] (p ∷ ps) found at h = absurd (cc)
  slots-are xs each numbered (q ∷ row) [] found at h = absurd (cc)
  slots-are xs each numbered (q ∷ row) (p ∷ ps) [] at h = absurd h
  slots-are xs each numbered (q ∷ row) (p ∷ ps) (x ∷ found) at h =
      let here : slice_get (all_places s) q ≡ Some p = front-at (all_places s) q row p ps at in (
        (
          subst (λ i. slice_get (all_places s) i ≡ Some p) (sym h.0.place) here,
          slot-is p q here xs each numbered x h.0,
        ),
        slots-are xs each numbered row ps found (back-at (all_places s) q row p ps at) h.1,
      )
