-- Lists by their items, and rows that grow by one.
use Rattle.std.specs.Prelude.{◌≡◌, ℕ, ◌+◌, ◌<◌, List, [], ◌∷◌, ◌++◌, map, Option, None, Some, length, get_or, take, slice_get, filter_map, flat_map}
use Rattle.std.specs.List.{cons_option}
use Rattle.std.proofs.Common.{refl, ap, sym, ◌∙◌, arith, zero, suc}
use Rattle.std.proofs.Math.Seq.{take-suc}
use Rattle.std.proofs.lemmas.List.{append_assoc}

pub take-more : {A : Type 0} (xs : List A) (i : ℕ) (x : A) → i < length xs → x ≡ get_or xs i x
    → take (i + 1) xs ≡ take i xs ++ x ∷ []
take-more xs i x lt at =
    let next : i + 1 ≡ suc i = omega arith in
    ap (λ k. take k xs) next ∙ take-suc xs i x lt ∙ ap (λ y. take i xs ++ y ∷ []) (sym at)

-- what stands in a mapped list
pub seen-at : {A B : Type 0} (f : A → B) (xs : List A) (i : ℕ) (x : A) (y : B) → slice_get xs i ≡ Some x
    → slice_get (map f xs) i ≡ Some y → f x ≡ y
seen-at f [] i x y e h = absurd (cc)
seen-at f (z ∷ zs) zero x y e h =
    let same : z ≡ x = cc in
    let is : f z ≡ y = cc in ap f (sym same) ∙ is
seen-at f (z ∷ zs) (suc i) x y e h = seen-at f zs i x y e h

pub map-joined : {A B : Type 0} (f : A → B) (xs ys : List A) → map f (xs ++ ys) ≡ map f xs ++ map f ys
map-joined f [] ys = refl
map-joined f (x ∷ xs) ys = ap (λ zs. f x ∷ zs) (map-joined f xs ys)

pub flat-joined : {A B : Type 0} (f : A → List B) (xs ys : List A)
    → flat_map f (xs ++ ys) ≡ flat_map f xs ++ flat_map f ys
flat-joined f [] ys = refl
flat-joined f (x ∷ xs) ys =
    ap (λ zs. f x ++ zs) (flat-joined f xs ys) ∙ sym (append_assoc (f x) (flat_map f xs) (flat_map f ys))

cons-joined : {B : Type 0} (o : Option B) (xs ys : List B) → cons_option o (xs ++ ys) ≡ cons_option o xs ++ ys
cons-joined None xs ys = refl
cons-joined (Some x) xs ys = refl

pub filter-joined : {A B : Type 0} (f : A → Option B) (xs ys : List A)
    → filter_map f (xs ++ ys) ≡ filter_map f xs ++ filter_map f ys
filter-joined f [] ys = refl
filter-joined f (x ∷ xs) ys =
    ap (cons_option (f x)) (filter-joined f xs ys) ∙ cons-joined (f x) (filter_map f xs) (filter_map f ys)

module _ {A N B : Type 0} (v : A → N) (f : N → Option B) where
  pub filter-more : (xs : List A) (i : ℕ) (x : A) (old new : List B) → i < length xs → x ≡ get_or xs i x
      → old ≡ filter_map f (map v (take i xs)) → new ≡ old ++ cons_option (f (v x)) []
      → new ≡ filter_map f (map v (take (i + 1) xs))
  filter-more xs i x old new lt at before is =
      is ∙ ap (λ ys. ys ++ cons_option (f (v x)) []) before
      ∙ sym (filter-joined f (map v (take i xs)) (v x ∷ []))
      ∙ ap (filter_map f) (sym (map-joined v (take i xs) (x ∷ [])))
      ∙ ap (λ ys. filter_map f (map v ys)) (sym (take-more xs i x lt at))

module _ {A N X B : Type 0} (v : A → N) (f : N → B) (w : X → B) where
  pub rows-more : (xs : List A) (i : ℕ) (x : A) (old new : List X) (row : X) → i < length xs → x ≡ get_or xs i x
      → map w old ≡ map f (map v (take i xs)) → w row ≡ f (v x) → new ≡ old ++ row ∷ []
      → map w new ≡ map f (map v (take (i + 1) xs))
  rows-more xs i x old new row lt at before here is =
      ap (map w) is ∙ map-joined w old (row ∷ []) ∙ ap (λ ys. ys ++ w row ∷ []) before
      ∙ ap (λ b. map f (map v (take i xs)) ++ b ∷ []) here
      ∙ sym (map-joined f (map v (take i xs)) (v x ∷ []))
      ∙ ap (map f) (sym (map-joined v (take i xs) (x ∷ [])))
      ∙ ap (λ ys. map f (map v ys)) (sym (take-more xs i x lt at))
