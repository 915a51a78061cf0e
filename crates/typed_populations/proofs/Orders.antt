-- Types in order, and where the attributes stand that they declare.
use Rattle.std.specs.Prelude.{◌≡◌, ℕ, suc, ◌+◌, ◌<◌, ◌≤◌, List, [], ◌∷◌, ◌++◌, length, map, flat_map, take, Option, None, Some, slice_get, get_or, Vec}
use Rattle.std.specs.List.{AllZip}
use Rattle.std.proofs.Common.{refl, sym, ap, subst, ◌∙◌, zero, arith}
use Rattle.std.proofs.lemmas.List.{append-nil}
use Rattle.graphs.specs.Graphs.{graph_of, next}
use Rattle.express_syntax.specs.Schemas.{Schema, Declaration, type, entity, skipped}
use Rattle.express_syntax.specs.Views.{if_some}
use Rattle.express_syntax.specs.ExpressionViews.{capitals}
use Rattle.step_literals.specs.declared.literal.Word.{Word}
use Rattle.schema_semantics.specs.Names.{Name, declaration_of}
use Rattle.schema_semantics.specs.Attributes.{Place}
use Rattle.schema_names.specs.Numbers.{number_of, HasNumber, AreAt}
use Rattle.schema_names.proofs.Numbers.{what-stands, stands-at, each-number}
use Rattle.schema_names.proofs.Items.{front-at, back-at, row-at}
use Rattle.schema_names.proofs.Rows.{take-more, map-joined, flat-joined}
use Rattle.schema_explicit_attributes.specs.Places.{places_in, all_places, ArePlaceRows}
use Rattle.conformance.specs.Entities.{own_in, own_places_of}

-- lists that grow by one each
pub zip-joined : {A B : Type 0} (R : A → B → Type 0) (xs us : List A) (ys vs : List B) → AllZip R xs ys → AllZip R us vs
    → AllZip R (xs ++ us) (ys ++ vs)
zip-joined R [] us [] vs h k = k
zip-joined R [] us (y ∷ ys) vs h k = absurd h
zip-joined R (x ∷ xs) us [] vs h k = absurd h
zip-joined R (x ∷ xs) us (y ∷ ys) vs h k = (h.0, zip-joined R xs us ys vs h.1 k)

pub zip-next : {A B : Type 0} (R : A → B → Type 0) (xs : List A) (i : ℕ) (x : A) (old new : List B) (y : B)
    → i < length xs → x ≡ get_or xs i x → AllZip R (take i xs) old → R x y → new ≡ old ++ y ∷ []
    → AllZip R (take (i + 1) xs) new
zip-next R xs i x old new y lt at h one is =
    subst (λ l. AllZip R l new) (sym (take-more xs i x lt at))
    (subst (AllZip R (take i xs ++ x ∷ [])) (sym is) (zip-joined R (take i xs) (x ∷ []) old (y ∷ []) h (one, tt)))

-- the number of a name is that of a declaration
pub has-item : {A B : Type 0} (f : A → B) (xs : List A) (i : ℕ) (y : B) → slice_get (map f xs) i ≡ Some y → i < length xs
has-item f [] i y e = absurd (cc)
has-item f (x ∷ xs) zero y e = omega arith
has-item f (x ∷ xs) (suc i) y e = let rest = has-item f xs i y e in omega arith

pub word-is : (w : Word) (n : Name) → if_some capitals (Some w) ≡ Some n → capitals w ≡ n
word-is w n e = cc

-- what has no number isn't declared
pub undeclared : (s : Schema) (n : Name) → number_of s n ≡ None → declaration_of s.declarations n ≡ None
undeclared s n h = by (declaration_of s.declarations n) refl
  where
    by : (o : Option Declaration) → declaration_of s.declarations n ≡ o → o ≡ None
    by None e = refl
    by (Some d) e = let (i, k) = each-number 0 s.declarations n d e in absurd (let z = sym h ∙ k in cc)

-- the row of a number
pub row-is : {Z : Type 0} (rows : List (Vec ℕ Z)) (i : ℕ) (v : Vec ℕ Z) → i < length rows → v ≡ get_or rows i v
    → next (graph_of rows) i ≡ v.items
row-is [] i v lt e = absurd (omega (arith, lt))
row-is (r ∷ rows) zero v lt e = ap (λ (x : Vec ℕ _). x.items) (sym e)
row-is (r ∷ rows) (suc i) v lt e = row-is rows i v (omega (arith, lt)) e

pub no-row : {Z : Type 0} (rows : List (Vec ℕ Z)) (i : ℕ) → length rows ≤ i → next (graph_of rows) i ≡ []
no-row [] i le = refl
no-row (r ∷ rows) zero le = absurd (omega (arith, le))
no-row (r ∷ rows) (suc i) le = no-row rows i (omega (arith, le))

module _ (s : Schema) where
  -- the places of a declaration
  own-places : (d : Declaration) → own_in (Some d) ≡ places_in d
  own-places (type t) = refl
  own-places (entity e) = refl
  own-places (skipped p) = refl

  pub own-at : (rows : List (List ℕ)) (n : Name) (i : ℕ) → ArePlaceRows (all_places s) s.declarations rows → HasNumber s n i
      → AreAt (all_places s) (next rows i) (own_places_of s n)
  own-at rows n i own h =
      let (d, at, named) = what-stands s n i h in
      subst (AreAt (all_places s) (next rows i)) (sym (ap own_in (stands-at s n i h ∙ at) ∙ own-places d))
      (row-at places_in (all_places s) s.declarations rows i d own at)

  pub own-none : (n : Name) → number_of s n ≡ None → AreAt (all_places s) [] (own_places_of s n)
  own-none n h = subst (AreAt (all_places s) []) (sym (ap own_in (undeclared s n h))) refl

  -- where the attributes of a row stand
  pub row-stands : (f : ℕ → Option ℕ) (row : List ℕ) (ps : List Place) → AreAt (all_places s) row ps
      → AllZip (λ p o. (q : ℕ) × (slice_get (all_places s) q ≡ Some p) × (o ≡ f q)) ps (map f row)
  row-stands f [] [] h = tt
  row-stands f [] (p ∷ ps) h = absurd (cc)
  row-stands f (q ∷ row) [] h = absurd (cc)
  row-stands f (q ∷ row) (p ∷ ps) h =
      ((q, front-at (all_places s) q row p ps h, refl), row-stands f row ps (back-at (all_places s) q row p ps h))

-- of one type more
pub flat-next : {A B C : Type 0} (f : B → List C) (v : A → B) (xs : List A) (i : ℕ) (x : A) → i < length xs
    → x ≡ get_or xs i x → flat_map f (map v (take (i + 1) xs)) ≡ flat_map f (map v (take i xs)) ++ f (v x)
flat-next f v xs i x lt at =
    ap (λ l. flat_map f (map v l)) (take-more xs i x lt at)
    ∙ ap (flat_map f) (map-joined v (take i xs) (x ∷ []))
    ∙ flat-joined f (map v (take i xs)) (v x ∷ [])
    ∙ ap (λ l. flat_map f (map v (take i xs)) ++ l) (append-nil (f (v x)))
