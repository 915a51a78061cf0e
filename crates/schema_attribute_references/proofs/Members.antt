-- Numbers in lists: which tests keep them, and whether all are one.
use Rattle.std.specs.Prelude.{◌≡◌, ℕ, Bool, true, false, cond, ◌||◌, ◌&&◌, ◌⊎◌, eqb, List, [], ◌∷◌, Some, map, slice_get}
use Rattle.std.specs.List.{list_any, list_all, filter}
use Rattle.std.proofs.Common.{refl, inl, inr, ap, sym, subst, ◌∙◌, arith}
use Rattle.std.proofs.lemmas.Bool.Decides.{nat_tests}
use Rattle.graphs.specs.Graphs.{has}
use Rattle.graphs.proofs.Searching.{either, left-holds}
use Rattle.schema_semantics.specs.Names.{Among, OneOf}
use Rattle.schema_semantics.proofs.Bools.{both-hold}
use Rattle.schema_explicit_attributes.proofs.Having.{right-holds}
use Rattle.schema_attribute_references.specs.steps.Named.{is_one}

pub same-number : (x y : ℕ) → eqb x y ≡ true → x ≡ y
same-number x y e = grind (arith, nat_tests)

pub number-same : (x y : ℕ) → x ≡ y → eqb x y ≡ true
number-same x y e = grind (arith, nat_tests)

pub number-differs : (x y : ℕ) → eqb x y ≡ false → x ≡ y → ⊥
number-differs x y e is = let so = number-same x y is in cc

pub has-among : (xs : List ℕ) (j : ℕ) → has xs j ≡ true → Among j xs
has-among [] j h = absurd (cc)
has-among (x ∷ xs) j h = by (either (eqb j x) (has xs j) h) (has-among xs j)
  where
    by : (eqb j x ≡ true) ⊎ (has xs j ≡ true) → (has xs j ≡ true → Among j xs) → Among j (x ∷ xs)
    by (inl e) more = inl (sym (same-number j x e))
    by (inr k) more = inr (more k)

pub among-has : (xs : List ℕ) (j : ℕ) → Among j xs → has xs j ≡ true
among-has [] j h = absurd h
among-has (x ∷ xs) j (inl e) = left-holds (eqb j x) (has xs j) (number-same j x (sym e))
among-has (x ∷ xs) j (inr h) = right-holds (eqb j x) (has xs j) (among-has xs j h)

-- those of a list that pass a test
pub kept-forth : (p : ℕ → Bool) (xs : List ℕ) (j : ℕ) → Among j (filter p xs) → Among j xs × (p j ≡ true)
kept-forth p [] j h = absurd h
kept-forth p (x ∷ xs) j h = by (p x) refl (kept-forth p xs j) h
  where
    by : (b : Bool) → p x ≡ b → (Among j (filter p xs) → Among j xs × (p j ≡ true))
        → Among j (cond b (x ∷ filter p xs) (filter p xs)) → Among j (x ∷ xs) × (p j ≡ true)
    by true e more (inl is) = (inl is, subst (λ y. p y ≡ true) is e)
    by true e more (inr k) = let (m, f) = more k in (inr m, f)
    by false e more k = let (m, f) = more k in (inr m, f)

pub kept-back : (p : ℕ → Bool) (xs : List ℕ) (j : ℕ) → Among j xs → p j ≡ true → Among j (filter p xs)
kept-back p [] j h f = absurd h
kept-back p (x ∷ xs) j h f = by (p x) refl (λ m. kept-back p xs j m f) h
  where
    by : (b : Bool) → p x ≡ b → (Among j xs → Among j (filter p xs)) → Among j (x ∷ xs)
        → Among j (cond b (x ∷ filter p xs) (filter p xs))
    by true e more (inl is) = inl is
    by true e more (inr k) = inr (more k)
    by false e more (inl is) = let so = subst (λ y. p y ≡ false) is e in absurd (cc)
    by false e more (inr k) = more k

-- a member of a mapped list is the image of a member
pub shown-forth : {X : Type 0} (f : X → ℕ) (xs : List X) (j : ℕ) → Among j (map f xs) → (x : X) × Among x xs × (f x ≡ j)
shown-forth f [] j h = absurd h
shown-forth f (x ∷ xs) j (inl e) = (x, inl refl, e)
shown-forth f (x ∷ xs) j (inr h) = let (y, m, e) = shown-forth f xs j h in (y, inr m, e)

pub one-at : {X : Type 0} (P : X → Type 0) (xs : List X) (x : X) → Among x xs → P x → OneOf P xs
one-at P [] x h p = absurd h
one-at P (y ∷ xs) x (inl e) p = inl (subst P (sym e) p)
one-at P (y ∷ xs) x (inr h) p = inr (one-at P xs x h p)

pub at-one : {X : Type 0} (P : X → Type 0) (xs : List X) → OneOf P xs → (x : X) × Among x xs × P x
at-one P [] h = absurd h
at-one P (x ∷ xs) (inl p) = (x, inl refl, p)
at-one P (x ∷ xs) (inr h) = let (y, m, p) = at-one P xs h in (y, inr m, p)

-- one that passes a test
pub any-forth : (p : ℕ → Bool) (xs : List ℕ) → list_any p xs ≡ true → (j : ℕ) × Among j xs × (p j ≡ true)
any-forth p [] h = absurd (cc)
any-forth p (x ∷ xs) h = by (either (p x) (list_any p xs) h) (any-forth p xs)
  where
    by : (p x ≡ true) ⊎ (list_any p xs ≡ true) → (list_any p xs ≡ true → (j : ℕ) × Among j xs × (p j ≡ true))
        → (j : ℕ) × Among j (x ∷ xs) × (p j ≡ true)
    by (inl e) more = (x, inl refl, e)
    by (inr k) more = let (j, m, e) = more k in (j, inr m, e)

pub any-back : (p : ℕ → Bool) (xs : List ℕ) (j : ℕ) → Among j xs → p j ≡ true → list_any p xs ≡ true
any-back p [] j h e = absurd h
any-back p (x ∷ xs) j (inl is) e = left-holds (p x) (list_any p xs) (subst (λ y. p y ≡ true) (sym is) e)
any-back p (x ∷ xs) j (inr h) e = right-holds (p x) (list_any p xs) (any-back p xs j h e)

-- all that a list has pass a test
all-at : (p : ℕ → Bool) (xs : List ℕ) (j : ℕ) → list_all p xs ≡ true → Among j xs → p j ≡ true
all-at p [] j h m = absurd m
all-at p (x ∷ xs) j h (inl e) = subst (λ y. p y ≡ true) e (both-hold (p x) (list_all p xs) h).0
all-at p (x ∷ xs) j h (inr m) = all-at p xs j (both-hold (p x) (list_all p xs) h).1 m

and-so : (b c : Bool) → b ≡ true → c ≡ true → (b && c) ≡ true
and-so true c e f = f
and-so false c e f = absurd (cc)

all-of : (p : ℕ → Bool) (xs : List ℕ) → ((j : ℕ) → Among j xs → p j ≡ true) → list_all p xs ≡ true
all-of p [] h = refl
all-of p (x ∷ xs) h = and-so (p x) (list_all p xs) (h x (inl refl)) (all-of p xs (λ j m. h j (inr m)))

some-not : (p : ℕ → Bool) (xs : List ℕ) → list_all p xs ≡ false → (j : ℕ) × Among j xs × (p j ≡ false)
some-not p [] h = absurd (cc)
some-not p (x ∷ xs) h = by (p x) refl (some-not p xs) h
  where
    by : (b : Bool) → p x ≡ b → (list_all p xs ≡ false → (j : ℕ) × Among j xs × (p j ≡ false))
        → (b && list_all p xs) ≡ false → (j : ℕ) × Among j (x ∷ xs) × (p j ≡ false)
    by true e more k = let (j, m, f) = more k in (j, inr m, f)
    by false e more k = (x, inl refl, e)

-- whether all are one
pub one-first : (xs : List ℕ) → is_one xs ≡ true → (i j : ℕ) → Among i xs → Among j xs → i ≡ j
one-first [] h i j m k = absurd m
one-first (x ∷ xs) h i j m k =
    let e = same-number i x (all-at (λ y. eqb y x) (x ∷ xs) i h m) in
    let f = same-number j x (all-at (λ y. eqb y x) (x ∷ xs) j h k) in
    e ∙ sym f

pub one-some : (xs : List ℕ) → is_one xs ≡ true → (i : ℕ) × Among i xs
one-some [] h = absurd (cc)
one-some (x ∷ xs) h = (x, inl refl)

pub one-so : (xs : List ℕ) (i : ℕ) → Among i xs → ((j : ℕ) → Among j xs → j ≡ i) → is_one xs ≡ true
one-so [] i m h = absurd m
one-so (x ∷ xs) i m h =
    all-of (λ y. eqb y x) (x ∷ xs) (λ j k. number-same j x (h j k ∙ sym (h x (inl refl))))

-- none at all, or two that differ
pub none-or-two : (xs : List ℕ) → is_one xs ≡ false → ((i : ℕ) → Among i xs → ⊥)
    ⊎ ((i : ℕ) × (j : ℕ) × Among i xs × Among j xs × (i ≡ j → ⊥))
none-or-two [] h = inl (λ i m. absurd m)
none-or-two (x ∷ xs) h =
    let (j, m, e) = some-not (λ y. eqb y x) (x ∷ xs) h in inr (j, x, m, inl refl, number-differs j x e)

pub one-of-first : (xs : List ℕ) (x : ℕ) → slice_get xs 0 ≡ Some x → list_all (λ y. eqb y x) xs ≡ is_one xs
one-of-first [] x h = absurd (cc)
one-of-first (y ∷ xs) x h = let same : y ≡ x = cc in ap (λ z. list_all (λ w. eqb w z) (y ∷ xs)) (sym same)
