-- A list of places that goes on, and rows of their numbers.
use Rattle.std.specs.Prelude.{◌≡◌, ℕ, ◌+◌, ◌<◌, List, [], ◌∷◌, ◌++◌, map, flat_map, length, get_or, take}
use Rattle.std.proofs.Common.{refl, ap, sym, subst, ◌∙◌}
use Rattle.std.proofs.lemmas.List.{append_assoc, append-nil, length-map}
use Rattle.express_syntax.specs.ExpressionViews.{capitals}
use Rattle.schema_explicit_attributes.specs.declared.attributes.Place.{Place as Attributed}
use Rattle.schema_semantics.specs.Names.{Name, own_names}
use Rattle.schema_semantics.specs.Attributes.{Place}
use Rattle.express_syntax.specs.Schemas.{Attribute, own, redeclared, Explicit}
use Rattle.schema_explicit_attributes.specs.Places.{places_of, Adds, of_explicit}
use Rattle.schema_names.specs.Numbers.{AreAt}
use Rattle.schema_names.proofs.Rows.{map-joined, flat-joined, take-more}
use Rattle.schema_names.proofs.Items.{stay-at, joined-at, at-end}

pub adds-none : (all : List Place) (row : List ℕ) → Adds all row [] all row
adds-none all row = record {
  places = sym (append-nil all);
  numbers = λ qs h. subst (AreAt all row) (sym (append-nil qs)) h;
}

pub adds-one : (all : List Place) (row : List ℕ) (p : Place) (new : List Place) (after : List ℕ)
    → new ≡ all ++ p ∷ [] → after ≡ row ++ length all ∷ [] → Adds all row (p ∷ []) new after
adds-one all row p new after is behind = record {
  places = is;
  numbers = λ qs h. subst (λ xs. AreAt xs after (qs ++ p ∷ [])) (sym is)
      (subst (λ r. AreAt (all ++ p ∷ []) r (qs ++ p ∷ [])) (sym behind)
      (joined-at (all ++ p ∷ []) row (length all ∷ []) qs (p ∷ []) (stay-at all (p ∷ []) row qs h)
      (ap (λ o. o ∷ []) (at-end all p))));
}

pub adds-joined : (a b c : List Place) (r s t : List ℕ) (ps qs : List Place) → Adds a r ps b s → Adds b s qs c t
    → Adds a r (ps ++ qs) c t
adds-joined a b c r s t ps qs h k = record {
  places = k.places ∙ ap (λ xs. xs ++ qs) h.places ∙ append_assoc a ps qs;
  numbers = λ os g. subst (AreAt c t) (append_assoc os ps qs) (k.numbers (os ++ ps) (h.numbers os g));
}

-- an attribute that is added
pub adds-place : (old new : List Attributed) (row after : List ℕ) (p : Attributed) (k : ℕ) → new ≡ old ++ p ∷ []
    → after ≡ row ++ k ∷ [] → k ≡ length old
    → Adds (places_of old) row ((capitals p.entity.now, capitals p.attribute.now) ∷ []) (places_of new) after
adds-place old new row after p k is behind at =
    adds-one (places_of old) row (capitals p.entity.now, capitals p.attribute.now) (places_of new) after
    (ap places_of is ∙ map-joined (λ (x : Attributed). (capitals x.entity.now, capitals x.attribute.now)) old (p ∷ []))
    (behind ∙ ap (λ n. row ++ n ∷ [])
    (at ∙ sym (length-map old (λ (x : Attributed). (capitals x.entity.now, capitals x.attribute.now)))))

-- the places of attributes, one after the other
abbrev pub of_names : Name → List Attribute → List Place
of_names e xs = map (λ (n : Name). (e, n)) (own_names xs)

own-joined : (xs ys : List Attribute) → own_names (xs ++ ys) ≡ own_names xs ++ own_names ys
own-joined [] ys = refl
own-joined (own n ∷ xs) ys = ap (λ zs. n ∷ zs) (own-joined xs ys)
own-joined (redeclared q a ∷ xs) ys = own-joined xs ys

pub names-joined : (e : Name) (xs ys : List Attribute) → of_names e (xs ++ ys) ≡ of_names e xs ++ of_names e ys
names-joined e xs ys =
    ap (map (λ (n : Name). (e, n))) (own-joined xs ys) ∙ map-joined (λ (n : Name). (e, n)) (own_names xs) (own_names ys)

-- Items of a list are added in turn: `seen` shows them, and `of` gives the places that each adds.
module _ {A V : Type 0} (seen : A → V) (of : List V → List Place)
    (joins : (xs ys : List V) → of (xs ++ ys) ≡ of xs ++ of ys) where
  pub adds-next : (xs : List A) (i : ℕ) (x : A) (a b c : List Place) (r s t : List ℕ) → i < length xs
      → x ≡ get_or xs i x → Adds a r (of (map seen (take i xs))) b s → Adds b s (of (seen x ∷ [])) c t
      → Adds a r (of (map seen (take (i + 1) xs))) c t
  adds-next xs i x a b c r s t lt at h k =
      subst (λ ps. Adds a r ps c t) (sym next)
      (adds-joined a b c r s t (of (map seen (take i xs))) (of (seen x ∷ [])) h k)
    where
      next : of (map seen (take (i + 1) xs)) ≡ of (map seen (take i xs)) ++ of (seen x ∷ [])
      next =
          ap (λ ys. of (map seen ys)) (take-more xs i x lt at) ∙ ap of (map-joined seen (take i xs) (x ∷ []))
          ∙ joins (map seen (take i xs)) (seen x ∷ [])

abbrev pub explicits_of : Name → List Explicit → List Place
explicits_of e xs = flat_map (of_explicit e) xs

pub next-explicit : (e : Name) (xs ys : List Explicit)
    → explicits_of e (xs ++ ys) ≡ explicits_of e xs ++ explicits_of e ys
next-explicit e xs ys = flat-joined (of_explicit e) xs ys

-- all of them are the places of the entity
pub explicits-own : (e : Name) (xs : List Explicit)
    → explicits_of e xs ≡ map (λ (n : Name). (e, n)) (flat_map (λ (x : Explicit). own_names x.attributes) xs)
explicits-own e [] = refl
explicits-own e (x ∷ xs) =
    ap (λ ps. of_explicit e x ++ ps) (explicits-own e xs)
    ∙ sym (map-joined (λ (n : Name). (e, n)) (own_names x.attributes)
    (flat_map (λ (x : Explicit). own_names x.attributes) xs))
