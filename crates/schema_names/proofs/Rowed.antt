-- Rows of the names of own attributes.
use Rattle.std.specs.Prelude.{◌≡◌, ℕ, ◌+◌, ◌<◌, Bool, true, false, cond, List, [], ◌∷◌, ◌++◌, Vec, map, flat_map, length, take, get_or, slice_get, Option, None, Some, IfSome, MatchOption, nat_eq}
use Rattle.std.specs.List.Sorted.{IsSorted}
use Rattle.std.proofs.Common.{refl, ap, sym, subst, ◌∙◌, arith, zero, suc}
use Rattle.std.proofs.lemmas.Bool.Decides.{nat_tests}
use Rattle.std.proofs.lemmas.List.{take_more, append_assoc, append-nil}
use Rattle.step_literals.specs.declared.literal.Word.{Word}
use Rattle.express_syntax.specs.declared.tree.Declaration.{Declaration}
use Rattle.express_syntax.specs.Schemas.{Attribute, own, redeclared}
use Rattle.express_syntax.specs.Views.{names_of, declaration_of}
use Rattle.schema_semantics.specs.Names.{Name, own_names}
use Rattle.schema_names.specs.declared.attribute_names.Class.{Class}
use Rattle.schema_names.specs.steps.Enumerated.{includes, by_name}
use Rattle.schema_names.specs.steps.OwnNames.{names_in, some_names, IsRowOf, AreOwnRows}

own-joined : (ts us : List Attribute) → own_names (ts ++ us) ≡ own_names ts ++ own_names us
own-joined [] us = refl
own-joined (own n ∷ ts) us = ap (λ ns. n ∷ ns) (own-joined ts us)
own-joined (redeclared e n ∷ ts) us = own-joined ts us

map-joined : {A B : Type 0} (f : A → B) (xs ys : List A) → map f (xs ++ ys) ≡ map f xs ++ map f ys
map-joined f [] ys = refl
map-joined f (x ∷ xs) ys = ap (λ zs. f x ∷ zs) (map-joined f xs ys)

flat-joined : {A B : Type 0} (f : A → List B) (xs : List A) (y : A) → flat_map f (xs ++ y ∷ []) ≡ flat_map f xs ++ f y
flat-joined f [] y = append-nil (f y)
flat-joined f (x ∷ xs) y = ap (λ zs. f x ++ zs) (flat-joined f xs y) ∙ sym (append_assoc (f x) (flat_map f xs) (f y))

pub mapped-more : {A B : Type 0} (f : A → B) (xs : List A) (k : ℕ) (x : A) → k < length xs → x ≡ get_or xs k x
    → map f (take (k + 1) xs) ≡ map f (take k xs) ++ f x ∷ []
mapped-more f xs k x lt at =
    ap (map f) (take_more xs k x lt ∙ ap (λ z. take k xs ++ z ∷ []) (sym at)) ∙ map-joined f (take k xs) (x ∷ [])

pub twice-more : {A B C : Type 0} (g : B → C) (f : A → B) (xs : List A) (k : ℕ) (x : A) → k < length xs
    → x ≡ get_or xs k x → map g (map f (take (k + 1) xs)) ≡ map g (map f (take k xs)) ++ g (f x) ∷ []
twice-more g f xs k x lt at =
    ap (map g) (mapped-more f xs k x lt at) ∙ map-joined g (map f (take k xs)) (f x ∷ [])

-- one attribute more
pub names-more : (ts us : List Attribute) (t : Attribute) (first old new : List Name) → us ≡ ts ++ t ∷ []
    → old ≡ first ++ own_names ts → new ≡ old ++ own_names (t ∷ []) → new ≡ first ++ own_names us
names-more ts us t first old new more h is =
    is ∙ ap (λ ns. ns ++ own_names (t ∷ [])) h ∙ append_assoc first (own_names ts) (own_names (t ∷ []))
    ∙ ap (λ ns. first ++ ns) (sym (own-joined ts (t ∷ []))) ∙ ap (λ vs. first ++ own_names vs) (sym more)

-- the names of one more declaration
pub flat-more : {A B : Type 0} (f : B → List Name) (g : A → B) (xs : List A) (k : ℕ) (x : A)
    (first old new : List Name) → k < length xs → x ≡ get_or xs k x
    → old ≡ first ++ flat_map f (map g (take k xs)) → new ≡ old ++ f (g x)
    → new ≡ first ++ flat_map f (map g (take (k + 1) xs))
flat-more f g xs k x first old new lt at h is =
    is ∙ ap (λ ns. ns ++ f (g x)) h ∙ append_assoc first (flat_map f (map g (take k xs))) (f (g x))
    ∙ ap (λ ns. first ++ ns) (sym (flat-joined f (map g (take k xs)) (g x)))
    ∙ ap (λ vs. first ++ flat_map f vs) (sym (mapped-more g xs k x lt at))

seen-at : (ds : List Declaration) (k : ℕ) (d : Declaration) → k < length ds → d ≡ get_or ds k d
    → slice_get (map declaration_of ds) k ≡ Some (declaration_of d)
seen-at [] k d lt at = absurd (omega (arith, lt))
seen-at (x ∷ ds) zero d lt at = ap (λ y. Some (declaration_of y)) (sym at)
seen-at (x ∷ ds) (suc k) d lt at = seen-at ds k d (omega (arith, lt)) at

-- one row more
module _ {Z : Type 0} where
  pub row-added : (ds : List Declaration) (c : Class) (old new : ℕ → Option (Vec Word Z)) (number : ℕ) (d : Declaration)
      (row : Vec Word Z) → number < length ds → d ≡ get_or ds number d → AreOwnRows (map declaration_of ds) c old
      → ((i : ℕ) → new i ≡ cond (nat_eq number i) (Some row) (old i))
      → IsRowOf (names_in c (declaration_of d)) row.items → AreOwnRows (map declaration_of ds) c new
  row-added ds c old new number d row lt at h is one i =
      subst (λ o. IfSome o (λ v. IsRowOf (some_names c (slice_get (map declaration_of ds) i)) v.items)) (sym (is i))
      (by (nat_eq number i) refl)
    where
      here : number ≡ i → IsRowOf (some_names c (slice_get (map declaration_of ds) i)) row.items
      here same =
          subst (λ j. IsRowOf (some_names c (slice_get (map declaration_of ds) j)) row.items) same
          (subst (λ o. IsRowOf (some_names c o) row.items) (sym (seen-at ds number d lt at)) one)

      by : (b : Bool) → nat_eq number i ≡ b
          → IfSome (cond b (Some row) (old i)) (λ v. IsRowOf (some_names c (slice_get (map declaration_of ds) i)) v.items)
      by true e = here (grind (arith, nat_tests))
      by false e = h i

  -- what a row tells
  pub row-sorted : (o : Option (Vec Word Z)) (names : List Name) → IfSome o (λ v. IsRowOf names v.items)
      → IfSome o (λ v. IsSorted by_name v.items)
  row-sorted None names h = tt
  row-sorted (Some v) names h = h.0

  pub row-told : (o : Option (Vec Word Z)) (names : List Name) (n : Name) (r : Option Bool)
      → IfSome o (λ v. IsRowOf names v.items)
      → MatchOption o (r ≡ None) (λ v. r ≡ Some (includes (names_of v.items) n))
      → IfSome r (λ b. b ≡ includes names n)
  row-told None names n r h told = subst (λ x. IfSome x (λ b. b ≡ includes names n)) (sym told) tt
  row-told (Some v) names n r h told = subst (λ x. IfSome x (λ b. b ≡ includes names n)) (sym told) (h.1 n)
