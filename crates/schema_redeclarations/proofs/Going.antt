-- What loops have gone over.
use Rattle.std.specs.Prelude.{◌≡◌, ℕ, ◌+◌, ◌<◌, ◌≤◌, List, [], ◌∷◌, ◌++◌, Some, map, length, take, get_or, slice_get}
use Rattle.std.specs.List.{AllZip}
use Rattle.std.proofs.Common.{ap, sym, subst, ◌∙◌, arith, zero, suc}
use Rattle.std.proofs.lemmas.List.{length-map, take_all, append_assoc}
use Rattle.schema_names.proofs.Rows.{map-joined}
use Rattle.schema_attributes.proofs.Gathered.{seen}
use Rattle.schema_attributes.proofs.Rows.{at-map}

-- an item more
pub take-at : {A : Type 0} (xs : List A) (m : ℕ) (x : A) → slice_get xs m ≡ Some x
    → take (m + 1) xs ≡ take m xs ++ x ∷ []
take-at [] m x h = absurd (cc)
take-at (y ∷ xs) zero x h = let same : y ≡ x = cc in ap (λ z. z ∷ []) same
take-at (y ∷ xs) (suc m) x h =
    let next : suc m + 1 ≡ suc (m + 1) = omega arith in
    ap (λ k. take k (y ∷ xs)) next ∙ ap (λ zs. y ∷ zs) (take-at xs m x h)

-- all of them
pub all-taken : {A B : Type 0} (f : A → B) (xs : List A) (n : ℕ) → length xs ≤ n → take n (map f xs) ≡ map f xs
all-taken f xs n h = let many = length-map xs f in take_all n (map f xs) (omega (arith, h, many))

zip-more : {A B : Type 0} (R : A → B → Type 0) (xs : List A) (rows : List B) (x : A) (r : B) → AllZip R xs rows
    → R x r → AllZip R (xs ++ x ∷ []) (rows ++ r ∷ [])
zip-more R [] [] x r h k = (k, tt)
zip-more R [] (q ∷ rows) x r h k = elim h [ ]
zip-more R (y ∷ xs) [] x r h k = elim h [ ]
zip-more R (y ∷ xs) (q ∷ rows) x r h k = (h.0, zip-more R xs rows x r h.1 k)

-- rows of what was gone over
pub zip-next : {A B X Y : Type 0} (R : A → B → Type 0) (f : X → A) (g : Y → B) (xs : List X) (n : ℕ) (x : X)
    (old new : List Y) (row : Y) → n < length xs → x ≡ get_or xs n x → AllZip R (take n (map f xs)) (map g old)
    → R (f x) (g row) → new ≡ old ++ row ∷ [] → AllZip R (take (n + 1) (map f xs)) (map g new)
zip-next R f g xs n x old new row lt at h k is =
    subst (λ ys. AllZip R ys (map g new)) (sym (take-at (map f xs) n (f x) (seen f xs n x lt at)))
    (subst (AllZip R (take n (map f xs) ++ f x ∷ [])) (sym (ap (map g) is ∙ map-joined g old (row ∷ [])))
    (zip-more R (take n (map f xs)) (map g old) (f x) (g row) h k))

-- what is added of each
pub added-more : {A B : Type 0} (f : A → B) (xs : List A) (n : ℕ) (x : A) (start old new : List B)
    → slice_get xs n ≡ Some x → old ≡ start ++ take n (map f xs) → new ≡ old ++ f x ∷ []
    → new ≡ start ++ take (n + 1) (map f xs)
added-more f xs n x start old new at before is =
    is ∙ ap (λ ys. ys ++ f x ∷ []) before ∙ append_assoc start (take n (map f xs)) (f x ∷ [])
    ∙ ap (λ ys. start ++ ys) (sym (take-at (map f xs) n (f x) (at-map f xs n x at)))
