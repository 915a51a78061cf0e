-- What stands in lists, and in lists that are filtered.
use Rattle.std.specs.Prelude.{◌≡◌, ℕ, zero, suc, ◌+◌, ◌<◌, Bool, true, false, cond, List, [], ◌∷◌, ◌++◌, Option, None, Some, filter, filter_map, length, get_or, take, ◌⊎◌}
use Rattle.std.specs.List.{cons_option, list_any}
use Rattle.std.proofs.Common.{refl, inl, inr, ap, sym, subst, ◌∙◌, arith}
use Rattle.graphs.proofs.Searching.{either, left-holds}
use Rattle.schema_semantics.specs.Names.{OneOf, Among}
use Rattle.schema_names.proofs.Rows.{take-more, filter-joined}
use Rattle.schema_explicit_attributes.proofs.Having.{right-holds}

pub some-is : {A : Type 0} (x y : A) → Some x ≡ Some y → x ≡ y
some-is x y h = cc

-- one step more
pub filter-map-more : {A B : Type 0} (f : A → Option B) (xs : List A) (i : ℕ) (x : A) (old new : List B)
    → i < length xs → x ≡ get_or xs i x → old ≡ filter_map f (take i xs) → new ≡ old ++ cons_option (f x) []
    → new ≡ filter_map f (take (i + 1) xs)
filter-map-more f xs i x old new lt at before is =
    is ∙ ap (λ ys. ys ++ cons_option (f x) []) before ∙ sym (filter-joined f (take i xs) (x ∷ []))
    ∙ ap (filter_map f) (sym (take-more xs i x lt at))

pub among-at : {A : Type 0} (xs : List A) (i : ℕ) (d : A) → i < length xs → Among (get_or xs i d) xs
among-at [] i d lt = absurd (omega (arith, lt))
among-at (x ∷ xs) zero d lt = inl refl
among-at (x ∷ xs) (suc i) d lt = inr (among-at xs i d (omega (arith, lt)))

module _ {A : Type 0} (P : A → Type 0) where
  abbrev pub Found : List A → Type 0
  Found xs = (x : A) × Among x xs × P x

  pub one-found : (xs : List A) → OneOf P xs → Found xs
  one-found [] h = elim h [ ]
  one-found (x ∷ xs) (inl p) = (x, inl refl, p)
  one-found (x ∷ xs) (inr h) = let (y, m, p) = one-found xs h in (y, inr m, p)

  pub found-one : (xs : List A) (x : A) → Among x xs → P x → OneOf P xs
  found-one [] x m p = elim m [ ]
  found-one (y ∷ xs) x (inl e) p = inl (subst P (sym e) p)
  found-one (y ∷ xs) x (inr m) p = inr (found-one xs x m p)

  pub one-left : (xs ys : List A) → OneOf P xs → OneOf P (xs ++ ys)
  one-left [] ys h = elim h [ ]
  one-left (x ∷ xs) ys (inl p) = inl p
  one-left (x ∷ xs) ys (inr h) = inr (one-left xs ys h)

  pub one-right : (xs ys : List A) → OneOf P ys → OneOf P (xs ++ ys)
  one-right [] ys h = h
  one-right (x ∷ xs) ys h = inr (one-right xs ys h)

  pub one-either : (xs ys : List A) → OneOf P (xs ++ ys) → OneOf P xs ⊎ OneOf P ys
  one-either [] ys h = inr h
  one-either (x ∷ xs) ys (inl p) = inl (inl p)
  one-either (x ∷ xs) ys (inr h) = by (one-either xs ys h)
    where
      by : OneOf P xs ⊎ OneOf P ys → OneOf P (x ∷ xs) ⊎ OneOf P ys
      by (inl k) = inl (inr k)
      by (inr k) = inr k

module _ {A : Type 0} (f : A → Bool) where
  -- what passes a test
  pub kept-among : (xs : List A) (x : A) → Among x (filter f xs) → Among x xs × (f x ≡ true)
  kept-among [] x m = elim m [ ]
  kept-among (y ∷ xs) x m = by (f y) refl m (kept-among xs x)
    where
      by : (b : Bool) → f y ≡ b → Among x (cond b (y ∷ filter f xs) (filter f xs))
          → (Among x (filter f xs) → Among x xs × (f x ≡ true)) → Among x (y ∷ xs) × (f x ≡ true)
      by true e (inl is) more = (inl is, subst (λ z. f z ≡ true) is e)
      by true e (inr k) more = let (n, t) = more k in (inr n, t)
      by false e k more = let (n, t) = more k in (inr n, t)

  pub among-kept : (xs : List A) (x : A) → Among x xs → f x ≡ true → Among x (filter f xs)
  among-kept [] x m e = elim m [ ]
  among-kept (y ∷ xs) x (inl is) e =
      subst (λ b. Among x (cond b (y ∷ filter f xs) (filter f xs))) (sym (ap f is ∙ e)) (inl is)
  among-kept (y ∷ xs) x (inr m) e = by (f y) (among-kept xs x m e)
    where
      by : (b : Bool) → Among x (filter f xs) → Among x (cond b (y ∷ filter f xs) (filter f xs))
      by true k = inr k
      by false k = k

  -- whether one passes
  pub any-found : (xs : List A) → list_any f xs ≡ true → (x : A) × Among x xs × (f x ≡ true)
  any-found [] h = absurd (cc)
  any-found (x ∷ xs) h = by (either (f x) (list_any f xs) h) (any-found xs)
    where
      by : (f x ≡ true) ⊎ (list_any f xs ≡ true) → (list_any f xs ≡ true → (y : A) × Among y xs × (f y ≡ true))
          → (y : A) × Among y (x ∷ xs) × (f y ≡ true)
      by (inl e) more = (x, inl refl, e)
      by (inr e) more = let (y, m, t) = more e in (y, inr m, t)

  pub found-any : (xs : List A) (x : A) → Among x xs → f x ≡ true → list_any f xs ≡ true
  found-any [] x m e = elim m [ ]
  found-any (y ∷ xs) x (inl is) e = left-holds (f y) (list_any f xs) (ap f is ∙ e)
  found-any (y ∷ xs) x (inr m) e = right-holds (f y) (list_any f xs) (found-any xs x m e)

-- what an optional part of each gives
module _ {A B : Type 0} (f : A → Option B) (P : B → Type 0) where
  -- it has the part, and P holds of that
  abbrev pub HasPart : A → Type 0
  HasPart x = (y : B) × (f x ≡ Some y) × P y

  pub part-forth : (xs : List A) → OneOf P (filter_map f xs) → OneOf HasPart xs
  part-forth [] h = elim h [ ]
  part-forth (x ∷ xs) h = by (f x) refl h (part-forth xs)
    where
      by : (o : Option B) → f x ≡ o → OneOf P (cons_option o (filter_map f xs))
          → (OneOf P (filter_map f xs) → OneOf HasPart xs) → OneOf HasPart (x ∷ xs)
      by None e k more = inr (more k)
      by (Some y) e (inl p) more = inl (y, e, p)
      by (Some y) e (inr k) more = inr (more k)

  pub part-back : (xs : List A) → OneOf HasPart xs → OneOf P (filter_map f xs)
  part-back [] h = elim h [ ]
  part-back (x ∷ xs) (inl (y, e, p)) =
      subst (λ o. OneOf P (cons_option o (filter_map f xs))) (sym e) (inl p)
  part-back (x ∷ xs) (inr h) = by (f x) (part-back xs h)
    where
      by : (o : Option B) → OneOf P (filter_map f xs) → OneOf P (cons_option o (filter_map f xs))
      by None k = k
      by (Some y) k = inr k
