-- Forms that are made, and those that were made before.
use Rattle.std.specs.Prelude.{◌≡◌, ℕ, zero, suc, ◌+◌, Bool, true, false, cond, List, [], ◌∷◌, ◌++◌, length, map, take, Option, None, Some, slice_get, slice_set, Vec, ◌⊎◌}
use Rattle.std.proofs.Common.{refl, sym, ap, subst, ◌∙◌, inl, inr, append-nil, add-one}
use Rattle.std.proofs.lemmas.Slice.Eq.{bytes_eq-Decides}
use Rattle.indexmap.specs.IndexMap.{get, IsEmpty}
use Rattle.std.specs.Map.{lookup}
use Rattle.graphs.specs.Graphs.{graph_of}
use Rattle.express_syntax.specs.Schemas.{Schema}
use Rattle.express_syntax.specs.Profile.{Every}
use Rattle.step_structures.specs.Trees.{Tree, internal, external}
use Rattle.step_structures.specs.Trees as trees
use Rattle.step_exchange.specs.Views.{record_of, record_in, begins_with_keyword, form_of, form_in}
use Rattle.step_exchange.proofs.Writing.{take_next}
use Rattle.schema_names.specs.Numbers.{HasNumber}
use Rattle.schema_names.proofs.Rows.{map-joined}
use Rattle.schema_names.proofs.Items.{stays, at-end}
use Rattle.schema_underlying_types.specs.BaseViews.{name_at}
use Rattle.conformance.specs.Entities.{Entities, AreEntities, records}
use Rattle.population_rows.specs.declared.form.Form.{Form}
use Rattle.population_forms.specs.steps.Forms.{IsFormOf, NameEntities}
use Rattle.population_findings.specs.steps.Keywords.{are_entities}
use Rattle.population_findings.specs.steps.Rows.{HasFormAmong, AreNumbered}
use Rattle.population_findings.specs.steps.Making.{number_in, IsInternal, IsExternal, HasAt, same_items, AreMade, Adds, MakesOne, MakesForm, HaveFormsAmong, MakeForms}
use Rattle.population_findings.specs.declared.forms.Made.{Made}

-- a number is put at a place
pub number-put : (os : List (Option ℕ)) (i n j m : ℕ) → number_in (slice_set os i (Some n)) j ≡ Some m
    → ((j ≡ i) × (m ≡ n)) ⊎ (number_in os j ≡ Some m)
number-put [] zero n j m e = inr e
number-put [] (suc i) n j m e = inr e
number-put (o ∷ os) zero n zero m e = let same : n ≡ m = cc in inl (refl, sym same)
number-put (o ∷ os) zero n (suc j) m e = inr e
number-put (o ∷ os) (suc i) n zero m e = inr e
number-put (o ∷ os) (suc i) n (suc j) m e = on (number-put os i n j m e)
  where
    on : ((j ≡ i) × (m ≡ n)) ⊎ (number_in os j ≡ Some m) → ((suc j ≡ suc i) × (m ≡ n)) ⊎ (number_in os j ≡ Some m)
    on (inl (h, k)) = inl (ap suc h, k)
    on (inr h) = inr h

pub no-number : (os : List (Option ℕ)) → ((i : ℕ) → number_in os i ≡ None) → (i : ℕ)
    → number_in (os ++ None ∷ []) i ≡ None
no-number [] h zero = refl
no-number [] h (suc i) = refl
no-number (o ∷ os) h zero = h zero
no-number (o ∷ os) h (suc i) = no-number os (λ j. h (suc j)) i

-- forms stay as further ones are made
pub has-stays : (Is : Form → Type 0) (all more : List Form) (n : ℕ) → HasAt Is all n → HasAt Is (all ++ more) n
has-stays Is all more n (x, at, h) = (x, stays all more n x at, h)

pub has-new : (Is : Form → Type 0) (all : List Form) (x : Form) (n : ℕ) → n ≡ length all → Is x
    → HasAt Is (all ++ x ∷ []) n
has-new Is all x n e h = (x, subst (λ k. slice_get (all ++ x ∷ []) k ≡ Some x) (sym e) (at-end all x), h)

pub form-stays : (s : Schema) (en : Entities) (all more : List Form) (f : trees.Form) (o : Option ℕ)
    → HasFormAmong s en all f o → HasFormAmong s en (all ++ more) f o
form-stays s en all more f None h = h
form-stays s en all more f (Some n) (types, x, at, h) = (types, x, stays all more n x at, h)

every-more : {A : Type 0} (P : A → Type 0) (xs : List A) (x : A) → Every P xs → P x → Every P (xs ++ x ∷ [])
every-more P [] x h p = (p, tt)
every-more P (y ∷ xs) x h p = (h.0, every-more P xs x h.1 p)

-- the tables behind a form that is added
module _ (s : Schema) (old mid : Made) (x : Form) (n : ℕ) (made : AreMade s old) (adds : Adds old x mid n)
    (numbered : (en : Entities) → AreEntities s en → Every (λ i. HasNumber s (name_at s i) i) x.types.items)
  where
    types-grown : map (λ (y : Form). y.types.items) mid.forms.items ≡ graph_of mid.types.items
    types-grown =
        ap (map (λ (y : Form). y.types.items)) adds.forms
        ∙ map-joined (λ (y : Form). y.types.items) old.forms.items (x ∷ [])
        ∙ ap (λ l. l ++ x.types.items ∷ []) made.types ∙ sym adds.types

    numbered-grown : (en : Entities) → AreEntities s en → AreNumbered s (graph_of mid.types.items)
    numbered-grown en are =
        subst (AreNumbered s) (sym adds.types)
        (every-more (λ row. Every (λ i. HasNumber s (name_at s i) i) row) (graph_of old.types.items) x.types.items
        (made.numbered en are) (numbered en are))

    kept : (Is : Form → Type 0) (m : ℕ) → HasAt Is old.forms.items m → HasAt Is mid.forms.items m
    kept Is m h = subst (λ all. HasAt Is all m) (sym adds.forms) (has-stays Is old.forms.items (x ∷ []) m h)

    added : (Is : Form → Type 0) → Is x → HasAt Is mid.forms.items n
    added Is h = subst (λ all. HasAt Is all n) (sym adds.forms) (has-new Is old.forms.items x n adds.number h)

    internal-at : (i : ℕ) → IsInternal s i x → (j m : ℕ)
        → ((j ≡ i) × (m ≡ n)) ⊎ (number_in old.internal.items j ≡ Some m)
        → HasAt (IsInternal s j) mid.forms.items m
    internal-at i is j m (inl (e, f)) =
        subst (λ k. HasAt (IsInternal s k) mid.forms.items m) (sym e)
        (subst (λ k. HasAt (IsInternal s i) mid.forms.items k) (sym f) (added (IsInternal s i) is))
    internal-at i is j m (inr h) = kept (IsInternal s j) m (made.internal j m h)

    external-at : (k : Vec ℕ _) → IsExternal s k.items x → (q : Vec ℕ _) (m : ℕ) (b : Bool) → same_items k q ≡ b
        → cond b (Some n) (get same_items old.external q) ≡ Some m → HasAt (IsExternal s q.items) mid.forms.items m
    external-at k is q m true same e =
        let number : n ≡ m = cc in
        subst (λ l. HasAt (IsExternal s l) mid.forms.items m) ((bytes_eq-Decides k.items q.items).0 same)
        (subst (λ j. HasAt (IsExternal s k.items) mid.forms.items j) number (added (IsExternal s k.items) is))
    external-at k is q m false same e = kept (IsExternal s q.items) m (made.external q m e)

    -- the form of an entity, with its number at the entity's place
    pub makes-internal : (i : ℕ) (new : Made) → IsInternal s i x
        → new.internal.items ≡ slice_set old.internal.items i (Some n) → new.external ≡ mid.external
        → new.forms ≡ mid.forms → new.types ≡ mid.types → MakesOne s (IsInternal s i) old new n
    makes-internal i new is put same forms types =
        let items = ap (λ v. v.items) forms in
        let rows = ap (λ v. graph_of v.items) types in
        record {
          made = record {
            internal = λ j m h.
                subst (λ all. HasAt (IsInternal s j) all m) (sym items)
                (internal-at i is j m (number-put old.internal.items i n j m
                (subst (λ os. number_in os j ≡ Some m) put h)));
            external = λ q m h.
                subst (λ all. HasAt (IsExternal s q.items) all m) (sym items)
                (kept (IsExternal s q.items) m (made.external q m
                (subst (λ table. get same_items table q ≡ Some m) (same ∙ adds.external) h)));
            types = ap (map (λ (y : Form). y.types.items)) items ∙ types-grown ∙ sym rows;
            numbered = λ en are. subst (AreNumbered s) (sym rows) (numbered-grown en are);
          };
          goes = (x ∷ [], items ∙ adds.forms);
          has = subst (λ all. HasAt (IsInternal s i) all n) (sym items) (added (IsInternal s i) is);
        }

    -- the form of some entities, with its number as theirs
    pub makes-external : (k : Vec ℕ _) (new : Made) → IsExternal s k.items x
        → ((q : Vec ℕ _) → get same_items new.external q
        ≡ cond (same_items k q) (Some n) (get same_items mid.external q))
        → new.internal ≡ mid.internal → new.forms ≡ mid.forms → new.types ≡ mid.types
        → MakesOne s (IsExternal s k.items) old new n
    makes-external k new is put same forms types =
        let items = ap (λ v. v.items) forms in
        let rows = ap (λ v. graph_of v.items) types in
        record {
          made = record {
            internal = λ j m h.
                subst (λ all. HasAt (IsInternal s j) all m) (sym items)
                (kept (IsInternal s j) m (made.internal j m
                (subst (λ v. number_in v.items j ≡ Some m) (same ∙ adds.internal) h)));
            external = λ q m h.
                subst (λ all. HasAt (IsExternal s q.items) all m) (sym items)
                (external-at k is q m (same_items k q) refl
                (ap (λ table. cond (same_items k q) (Some n) (get same_items table q)) (sym adds.external)
                ∙ sym (put q) ∙ h));
            types = ap (map (λ (y : Form). y.types.items)) items ∙ types-grown ∙ sym rows;
            numbered = λ en are. subst (AreNumbered s) (sym rows) (numbered-grown en are);
          };
          goes = (x ∷ [], items ∙ adds.forms);
          has = subst (λ all. HasAt (IsExternal s k.items) all n) (sym items) (added (IsExternal s k.items) is);
        }

-- a form that was made
pub found-one : (s : Schema) (Is : Form → Type 0) (t : Made) (n : ℕ) → AreMade s t → HasAt Is t.forms.items n
    → MakesOne s Is t t n
found-one s Is t n made has = record { made = made; goes = ([], sym (append-nil t.forms.items)); has = has }

-- instances by how they are mapped
pub form-internal : (xs : List Tree) → begins_with_keyword xs ≡ true → form_of xs ≡ internal (record_of xs)
form-internal xs e = rw e refl

pub form-external : (xs : List Tree) → begins_with_keyword xs ≡ false → form_of xs ≡ external (map record_in xs)
form-external xs e = rw e refl

a-form : (s : Schema) (f : trees.Form) (Is : Form → Type 0) (old new : Made) (n : ℕ) → MakesOne s Is old new n
    → are_entities s (records f) ≡ true
    → ((en : Entities) → AreEntities s en → (x : Form) → Is x → IsFormOf s en f x) → MakesForm s f old new (Some n)
a-form s f Is old new n one types of = record {
  made = one.made;
  goes = one.goes;
  has = λ en are. (types, one.has.0, one.has.1, of en are one.has.0 one.has.2);
}

pub an-internal : (s : Schema) (xs : List Tree) (i : ℕ) (old new : Made) (n : ℕ)
    → MakesOne s (IsInternal s i) old new n → begins_with_keyword xs ≡ true
    → are_entities s (record_of xs ∷ []) ≡ true → NameEntities s (record_of xs ∷ []) (i ∷ [])
    → MakesForm s (form_of xs) old new (Some n)
an-internal s xs i old new n one k types named =
    a-form s (form_of xs) (IsInternal s i) old new n one
    (ap (λ f. are_entities s (records f)) (form-internal xs k) ∙ types)
    (λ en are x is. subst (λ f. IsFormOf s en f x) (sym (form-internal xs k)) (is en are (record_of xs) named))

pub an-external : (s : Schema) (xs : List Tree) (is : List ℕ) (old new : Made) (n : ℕ)
    → MakesOne s (IsExternal s is) old new n → begins_with_keyword xs ≡ false
    → are_entities s (map record_in xs) ≡ true → NameEntities s (map record_in xs) is
    → MakesForm s (form_of xs) old new (Some n)
an-external s xs is old new n one k types named =
    a-form s (form_of xs) (IsExternal s is) old new n one
    (ap (λ f. are_entities s (records f)) (form-external xs k) ∙ types)
    (λ en are x h. subst (λ f. IsFormOf s en f x) (sym (form-external xs k)) (h en are (map record_in xs) named))

-- forms of instances in order
have-more : (s : Schema) (en : Entities) (all more : List Form) (xs : List Tree) (ns : List (Option ℕ)) (x : Tree)
    (n : Option ℕ) → HaveFormsAmong s en all xs ns → HasFormAmong s en (all ++ more) (form_in x) n
    → HaveFormsAmong s en (all ++ more) (xs ++ x ∷ []) (ns ++ n ∷ [])
have-more s en all more [] [] x n h k = (k, tt)
have-more s en all more [] (m ∷ ns) x n h k = absurd h
have-more s en all more (y ∷ xs) [] x n h k = absurd h
have-more s en all more (y ∷ xs) (m ∷ ns) x n h k =
    (form-stays s en all more (form_in y) m h.0, have-more s en all more xs ns x n h.1 k)

pub forms-next : (s : Schema) (xs : List Tree) (i : ℕ) (x : Tree) (old new : Made) (ns : List (Option ℕ)) (n : Option ℕ)
    → slice_get xs i ≡ Some x → MakeForms s (take i xs) old ns → MakesForm s (form_in x) old new n
    → MakeForms s (take (i + 1) xs) new (ns ++ n ∷ [])
forms-next s xs i x old new ns n at h k = record {
  made = k.made;
  has = λ en are.
      let next : take (i + 1) xs ≡ take i xs ++ x ∷ [] = rw add-one (take_next xs i x at) in
      subst (λ l. HaveFormsAmong s en new.forms.items l (ns ++ n ∷ [])) (sym next)
      (subst (λ all. HaveFormsAmong s en all (take i xs ++ x ∷ []) (ns ++ n ∷ [])) (sym k.goes.1)
      (have-more s en old.forms.items k.goes.0 (take i xs) ns x n (h.has en are)
      (subst (λ all. HasFormAmong s en all (form_in x) n) k.goes.1 (k.has en are))));
}

-- no forms
pub none-made : (s : Schema) (t : Made) → ((i : ℕ) → number_in t.internal.items i ≡ None) → IsEmpty t.external
    → t.forms.items ≡ [] → t.types.items ≡ [] → AreMade s t
none-made s t none empty forms types = record {
  internal = λ i n h. absurd (let e = sym (none i) ∙ h in cc);
  external = λ k n h. absurd (let e = sym (ap (λ es. lookup (same_items k) es) empty) ∙ h in cc);
  types = ap (map (λ (x : Form). x.types.items)) forms ∙ sym (ap graph_of types);
  numbered = λ en are. subst (λ rows. AreNumbered s (graph_of rows)) (sym types) tt;
}
