-- What is asked of values, added data type by data type.
use Rattle.std.specs.Prelude.{◌≡◌, ℕ, zero, suc, ◌+◌, ◌≤◌, ◌==◌, true, false, cond, List, [], ◌∷◌, ◌++◌, length, map, take, drop, Some, slice_get}
use Rattle.std.specs.List.{AllZip}
use Rattle.std.proofs.Common.{refl, sym, ap, subst, ◌∙◌, arith, add-one, append_assoc, append-nil}
use Rattle.std.proofs.lemmas.List.{map-append}
use Rattle.std.proofs.lemmas.List.Elements.{filter-append}
use Rattle.std.proofs.lemmas.Grind.{flat_map-append}
use Rattle.std.proofs.lemmas.List.Concat.{flat_map-cons}
use Rattle.express_syntax.specs.Schemas.{Schema, DataType}
use Rattle.express_syntax.specs.Profile.{Every}
use Rattle.schema_semantics.proofs.Lists.{every-of}
use Rattle.conformance.specs.Bases.{Base, Domain, IsDomain, base}
use Rattle.schema_underlying_types.specs.BaseViews.{type_at, base_seen}
use Rattle.schema_underlying_types.specs.Tables.{IsNumberedBase, NamesKnownType}
use Rattle.schema_redeclarations.specs.declared.uses.AttributeUse.{AttributeUse}
use Rattle.schema_redeclarations.specs.declared.uses.Uses.{Uses}
use Rattle.schema_redeclarations.specs.Uses.{of_place, uses_at}
use Rattle.population_forms.specs.steps.Slots.{uses_by}
use Rattle.population_pins.specs.steps.Holding.{may_hold}
use Rattle.population_pins.specs.declared.slots.UniqueSlot.{UniqueSlot}
use Rattle.population_pins.specs.steps.Slots.{slot_seen, HaveNumbers, slot_by, slots_of, asked, AddsSlots, AreKnown}

-- items in turn
pub drop-item : {A : Type 0} (xs : List A) (i : ℕ) (x : A) → slice_get xs i ≡ Some x → drop i xs ≡ x ∷ drop (i + 1) xs
drop-item [] i x e = absurd (cc)
drop-item (y ∷ ys) zero x e = let same : y ≡ x = cc in ap (λ z. z ∷ ys) same
drop-item (y ∷ ys) (suc i) x e = rw add-one (rw add-one at (drop-item ys i x e))

pub drop-all : {A : Type 0} (xs : List A) (i : ℕ) → length xs ≤ i → drop i xs ≡ []
drop-all [] zero h = refl
drop-all [] (suc i) h = refl
drop-all (x ∷ xs) zero h = absurd (omega (arith, h))
drop-all (x ∷ xs) (suc i) h = drop-all xs i (omega (arith, h))

take-item : {A : Type 0} (xs : List A) (i : ℕ) (x : A) → slice_get xs i ≡ Some x
    → take (i + 1) xs ≡ take i xs ++ x ∷ []
take-item [] i x e = absurd (cc)
take-item (z ∷ xs) zero x e = let same : z ≡ x = cc in ap (λ w. w ∷ []) same
take-item (z ∷ xs) (suc i) x e = rw add-one (rw add-one at (ap (λ l. z ∷ l) (take-item xs i x e)))

every-joined : {A : Type 0} (P : A → Type 0) (xs ys : List A) → Every P xs → Every P ys → Every P (xs ++ ys)
every-joined P [] ys h k = k
every-joined P (x ∷ xs) ys h k = (h.0, every-joined P xs ys h.1 k)

slots-joined : (d : Domain) (i : ℕ) (ks ls : List DataType)
    → slots_of d i (ks ++ ls) ≡ slots_of d i ks ++ slots_of d i ls
slots-joined d i [] ls = refl
slots-joined d i (k ∷ ks) ls =
    ap (λ l. slot_by d i k ++ l) (slots-joined d i ks ls)
    ∙ sym (append_assoc (slot_by d i k) (slots_of d i ks) (slots_of d i ls))

module _ (s : Schema) where
  adds-both : (old mid new : List UniqueSlot) (f g all : Domain → List (ℕ × Base)) → AddsSlots s old mid f
      → AddsSlots s mid new g → ((d : Domain) → all d ≡ f d ++ g d) → AddsSlots s old new all
  adds-both old mid new f g all h k cut = record {
    says = λ d is. k.says d is ∙ ap (λ l. l ++ g d) (h.says d is)
        ∙ append_assoc (map (slot_seen s) old) (f d) (g d) ∙ ap (λ l. map (slot_seen s) old ++ l) (sym (cut d));
    numbered = λ n. k.numbered (h.numbered n);
  }

  -- a data type asks something of a value in which such a collection can stand
  pub adds-one : (i : ℕ) (k : DataType) (x : UniqueSlot) (old new : List UniqueSlot) → new ≡ old ++ x ∷ []
      → x.position ≡ i → IsNumberedBase s x.base → ((d : Domain) → IsDomain s d → base_seen s x.base ≡ base d k)
      → ((d : Domain) → IsDomain s d → true ≡ may_hold d (base_seen s x.base))
      → AddsSlots s old new (λ d. slots_of d i (k ∷ []))
  adds-one i k x old new is at numbered says holds = record {
    says = λ d dom. (let b = says d dom in
        ap (map (slot_seen s)) is ∙ map-append (slot_seen s) old (x ∷ [])
        ∙ ap (λ l. map (slot_seen s) old ++ l)
        ((λ j. (at j, b j) ∷ []) ∙ sym (append-nil ((i, base d k) ∷ []))
        ∙ ap (λ t. cond t ((i, base d k) ∷ []) [] ++ []) (holds d dom ∙ ap (may_hold d) b)));
    numbered = λ h. subst (HaveNumbers s) (sym is)
        (every-joined (λ (y : UniqueSlot). IsNumberedBase s y.base) old (x ∷ []) h (numbered, tt));
  }

  -- A data type requires nothing of a value in which no such collection can occur.
  pub adds-none : (i : ℕ) (k : DataType) (b : _) (xs : List UniqueSlot)
      → ((d : Domain) → IsDomain s d → base_seen s b ≡ base d k)
      → ((d : Domain) → IsDomain s d → false ≡ may_hold d (base_seen s b))
      → AddsSlots s xs xs (λ d. slots_of d i (k ∷ []))
  adds-none i k b xs says holds = record {
    says = λ d dom.
        sym (append-nil (map (slot_seen s) xs))
        ∙ ap (λ t. map (slot_seen s) xs ++ (cond t ((i, base d k) ∷ []) [] ++ []))
        (holds d dom ∙ ap (may_hold d) (says d dom));
    numbered = λ h. h;
  }

  -- one declaration more
  use-more : (d : Domain) (i q : ℕ) (us : List AttributeUse) (n : ℕ) (u : AttributeUse) → slice_get us n ≡ Some u
      → slots_of d i (asked s (of_place q (take (n + 1) us)))
      ≡ slots_of d i (asked s (of_place q (take n us))) ++ slots_of d i (asked s (of_place q (u ∷ [])))
  use-more d i q us n u at =
      ap (λ l. slots_of d i (asked s (of_place q l))) (take-item us n u at)
      ∙ ap (λ l. slots_of d i (asked s l)) (filter-append (λ (v : AttributeUse). v.place == q) (take n us) (u ∷ []))
      ∙ ap (slots_of d i) (map-append (λ (v : AttributeUse). type_at s v.data_type) (of_place q (take n us))
      (of_place q (u ∷ [])))
      ∙ slots-joined d i (asked s (of_place q (take n us))) (asked s (of_place q (u ∷ [])))

  -- one type more
  type-more : (d : Domain) (i q : ℕ) (t : Uses) (types : List ℕ) (n j : ℕ) → slice_get types n ≡ Some j
      → slots_of d i (asked s (uses_by t (take (n + 1) types) q))
      ≡ slots_of d i (asked s (uses_by t (take n types) q)) ++ slots_of d i (asked s (of_place q (uses_at t j)))
  type-more d i q t types n j at =
      ap (λ l. slots_of d i (asked s (uses_by t l q))) (take-item types n j at)
      ∙ ap (λ l. slots_of d i (asked s l)) (flat_map-append (λ k. of_place q (uses_at t k)) (take n types) (j ∷ []))
      ∙ ap (λ l. slots_of d i (asked s (uses_by t (take n types) q ++ l)))
      (flat_map-cons (λ k. of_place q (uses_at t k)) j [] ∙ append-nil (of_place q (uses_at t j)))
      ∙ ap (slots_of d i) (map-append (λ (v : AttributeUse). type_at s v.data_type) (uses_by t (take n types) q)
      (of_place q (uses_at t j)))
      ∙ slots-joined d i (asked s (uses_by t (take n types) q)) (asked s (of_place q (uses_at t j)))

  pub more-uses : (i q : ℕ) (us : List AttributeUse) (n : ℕ) (u : AttributeUse) (old mid new : List UniqueSlot)
      → slice_get us n ≡ Some u
      → AddsSlots s old mid (λ d. slots_of d i (asked s (of_place q (take n us))))
      → AddsSlots s mid new (λ d. slots_of d i (asked s (of_place q (u ∷ []))))
      → AddsSlots s old new (λ d. slots_of d i (asked s (of_place q (take (n + 1) us))))
  more-uses i q us n u old mid new at h k =
      adds-both old mid new (λ d. slots_of d i (asked s (of_place q (take n us))))
      (λ d. slots_of d i (asked s (of_place q (u ∷ []))))
      (λ d. slots_of d i (asked s (of_place q (take (n + 1) us)))) h k (λ d. use-more d i q us n u at)

  pub more-types : (i q : ℕ) (t : Uses) (types : List ℕ) (n j : ℕ) (us : List AttributeUse)
      (old mid new : List UniqueSlot) → slice_get types n ≡ Some j → us ≡ uses_at t j
      → AddsSlots s old mid (λ d. slots_of d i (asked s (uses_by t (take n types) q)))
      → AddsSlots s mid new (λ d. slots_of d i (asked s (of_place q us)))
      → AddsSlots s old new (λ d. slots_of d i (asked s (uses_by t (take (n + 1) types) q)))
  more-types i q t types n j us old mid new at is h k =
      adds-both old mid new (λ d. slots_of d i (asked s (uses_by t (take n types) q)))
      (λ d. slots_of d i (asked s (of_place q us)))
      (λ d. slots_of d i (asked s (uses_by t (take (n + 1) types) q))) h k
      (λ d. type-more d i q t types n j at
      ∙ ap (λ l. slots_of d i (asked s (uses_by t (take n types) q)) ++ slots_of d i (asked s (of_place q l))) (sym is))

  pub known-of : (t : Uses) (j : ℕ) (us : List AttributeUse) → us ≡ uses_at t j → AreKnown s t
      → Every (λ (u : AttributeUse). NamesKnownType s (type_at s u.data_type)) us
  known-of t j us is known =
      subst (Every (λ (u : AttributeUse). NamesKnownType s (type_at s u.data_type))) (sym is)
      (every-of (λ (u : AttributeUse). NamesKnownType s (type_at s u.data_type)) (uses_at t j) (known j))

-- lists side by side
zip-joined : {A B : Type 0} (R : A → B → Type 0) (xs : List A) (ys : List B) (x : A) (y : B) → AllZip R xs ys → R x y
    → AllZip R (xs ++ x ∷ []) (ys ++ y ∷ [])
zip-joined R [] [] x y h one = (one, tt)
zip-joined R [] (z ∷ ys) x y h one = absurd h
zip-joined R (z ∷ xs) [] x y h one = absurd h
zip-joined R (z ∷ xs) (w ∷ ys) x y h one = (h.0, zip-joined R xs ys x y h.1 one)

pub zip-more : {A B : Type 0} (R : A → B → Type 0) (xs : List A) (i : ℕ) (x : A) (old new : List B) (y : B)
    → slice_get xs i ≡ Some x → AllZip R (take i xs) old → R x y → new ≡ old ++ y ∷ [] → AllZip R (take (i + 1) xs) new
zip-more R xs i x old new y at h one is =
    subst (λ l. AllZip R l new) (sym (take-item xs i x at))
    (subst (AllZip R (take i xs ++ x ∷ [])) (sym is) (zip-joined R (take i xs) old x y h one))
