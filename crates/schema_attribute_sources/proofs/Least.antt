-- The lowest of those that pass a test, as it is found.
use Rattle.std.specs.Prelude.{◌≡◌, ℕ, ◌+◌, ◌<◌, Bool, true, false, cond, List, [], ◌∷◌, Option, None, Some, ◌⊎◌, length, drop, get_or}
use Rattle.std.proofs.Common.{refl, inl, inr, ap, sym, subst, ◌∙◌}
use Rattle.graphs.specs.Graphs.{has}
use Rattle.graphs.proofs.Gathered.{drop-next}
use Rattle.schema_attribute_sources.specs.steps.Lowest.{lower, with_type, lowest_from}
use Rattle.schema_attribute_sources.proofs.Members.{has-first, has-later, has-split}

module _ (test : ℕ → Bool) (r : ℕ → ℕ → Bool) where
  -- what is found stays found
  stays : (j : ℕ) (xs : List ℕ) → lowest_from test r (Some j) xs ≡ None → ⊥
  stays j [] h = cc
  stays j (x ∷ xs) h = by (test x) (r x j) h (λ (k : ℕ). stays k xs)
    where
      by : (b c : Bool) → lowest_from test r (cond b (cond c (Some x) (Some j)) (Some j)) xs ≡ None
          → ((k : ℕ) → lowest_from test r (Some k) xs ≡ None → ⊥) → ⊥
      by true true h more = more x h
      by true false h more = more j h
      by false c h more = more j h

  pub none-lowest : (xs : List ℕ) → lowest_from test r None xs ≡ None → (q : ℕ) → has xs q ≡ true → test q ≡ false
  none-lowest [] h q m = absurd (cc)
  none-lowest (x ∷ xs) h q m = by (test x) refl h (has-split x q xs m) (λ k. none-lowest xs k q)
    where
      by : (b : Bool) → test x ≡ b → lowest_from test r (cond b (Some x) None) xs ≡ None
          → (q ≡ x) ⊎ (has xs q ≡ true)
          → (lowest_from test r None xs ≡ None → has xs q ≡ true → test q ≡ false) → test q ≡ false
      by true e h at more = absurd (stays x xs h)
      by false e h (inl is) more = ap test is ∙ e
      by false e h (inr k) more = more h k

  -- what is found is what was found before, or one of the list that passes
  abbrev Comes : Option ℕ → List ℕ → ℕ → Type 0
  Comes o xs e = (o ≡ Some e) ⊎ ((has xs e ≡ true) × (test e ≡ true))

  abbrev Is : ℕ → ℕ → Type 0
  Is x e = Some x ≡ Some e

  is-one : (x e : ℕ) → Is x e → x ≡ e
  is-one x e h = cc

  here : (x e : ℕ) (xs : List ℕ) → test x ≡ true → Is x e → (has (x ∷ xs) e ≡ true) × (test e ≡ true)
  here x e xs t h =
      let same = is-one x e h in
      (subst (λ y. has (x ∷ xs) y ≡ true) same (has-first x xs), subst (λ y. test y ≡ true) same t)

  found-among : (o : Option ℕ) (xs : List ℕ) (e : ℕ) → lowest_from test r o xs ≡ Some e → Comes o xs e
  found-among o [] e h = inl h
  found-among o (x ∷ xs) e h = by (test x) refl (found-among (with_type test r o x) xs e h)
    where
      old : Option ℕ → Type 0
      old p = (p ≡ Some e) ⊎ ((has xs e ≡ true) × (test e ≡ true))

      later : (has xs e ≡ true) × (test e ≡ true) → Comes o (x ∷ xs) e
      later (m, t) = inr (has-later x e xs m, t)

      passed : (o : Option ℕ) → test x ≡ true → lower r o x ≡ Some e
          → (o ≡ Some e) ⊎ ((has (x ∷ xs) e ≡ true) × (test e ≡ true))
      passed None t is = inr (here x e xs t is)
      passed (Some j) t is = which (r x j) is
        where
          which : (b : Bool) → cond b (Some x) (Some j) ≡ Some e
              → (Some j ≡ Some e) ⊎ ((has (x ∷ xs) e ≡ true) × (test e ≡ true))
          which true is = inr (here x e xs t is)
          which false is = inl is

      by : (b : Bool) → test x ≡ b
          → (cond b (lower r o x) o ≡ Some e) ⊎ ((has xs e ≡ true) × (test e ≡ true)) → Comes o (x ∷ xs) e
      by true t (inl is) = passed o t is
      by true t (inr m) = later m
      by false t (inl is) = inl is
      by false t (inr m) = later m

  pub lowest-among : (xs : List ℕ) (e : ℕ) → lowest_from test r None xs ≡ Some e
      → (has xs e ≡ true) × (test e ≡ true)
  lowest-among xs e h = by (found-among None xs e h)
    where
      by : (None ≡ Some e) ⊎ ((has xs e ≡ true) × (test e ≡ true)) → (has xs e ≡ true) × (test e ≡ true)
      by (inl is) = absurd (cc)
      by (inr m) = m

  -- One of which all others that pass are above is found.
  module _ (apart : (i j : ℕ) → r i j ≡ true → r j i ≡ true → i ≡ j) (e : ℕ) where
    abbrev IsUnder : Option ℕ → Type 0
    IsUnder o = (j : ℕ) → o ≡ Some j → r e j ≡ true

    abbrev IsUnderAll : List ℕ → Type 0
    IsUnderAll xs = (q : ℕ) → has xs q ≡ true → test q ≡ true → r e q ≡ true

    abbrev Goes : List ℕ → Type 0
    Goes xs = (p : Option ℕ) → Comes p xs e → IsUnder p → lowest_from test r p xs ≡ Some e

    least-from : (xs : List ℕ) (o : Option ℕ) → Comes o xs e → IsUnderAll xs → IsUnder o
        → lowest_from test r o xs ≡ Some e
    least-from [] o (inl is) below under = is
    least-from [] o (inr m) below under = absurd (cc)
    least-from (x ∷ xs) o comes below under =
        by (test x) refl (λ p c u. least-from xs p c (λ q m. below q (has-later x q xs m)) u)
      where
        -- with x alone
        taken : test x ≡ true → (Some x ≡ Some e) ⊎ ((has xs e ≡ true) × (test e ≡ true)) → Goes xs
            → lowest_from test r (Some x) xs ≡ Some e
        taken t c more =
            more (Some x) c (λ j is. subst (λ y. r e y ≡ true) (is-one x j is) (below x (has-first x xs) t))

        -- what comes is x, or comes later
        split : (o : Option ℕ) → Comes o (x ∷ xs) e
            → (o ≡ Some e) ⊎ ((e ≡ x) ⊎ ((has xs e ≡ true) × (test e ≡ true)))
        split o (inl is) = inl is
        split o (inr (m, t)) = which (has-split x e xs m)
          where
            which : (e ≡ x) ⊎ (has xs e ≡ true)
                → (o ≡ Some e) ⊎ ((e ≡ x) ⊎ ((has xs e ≡ true) × (test e ≡ true)))
            which (inl is) = inr (inl is)
            which (inr k) = inr (inr (k, t))

        passed : (o : Option ℕ) → test x ≡ true → IsUnder o
            → (o ≡ Some e) ⊎ ((e ≡ x) ⊎ ((has xs e ≡ true) × (test e ≡ true))) → Goes xs
            → lowest_from test r (lower r o x) xs ≡ Some e
        passed None t under (inl is) more = absurd (cc)
        passed None t under (inr (inl is)) more = taken t (inl (ap Some (sym is))) more
        passed None t under (inr (inr m)) more = taken t (inr m) more
        passed (Some j) t under c more = which (r x j) refl c
          where
            which : (b : Bool) → r x j ≡ b
                → (Some j ≡ Some e) ⊎ ((e ≡ x) ⊎ ((has xs e ≡ true) × (test e ≡ true)))
                → lowest_from test r (cond b (Some x) (Some j)) xs ≡ Some e
            which true k (inl is) =
                let same = is-one j e is in
                let one : x ≡ e =
                apart x e (subst (λ y. r x y ≡ true) same k) (below x (has-first x xs) t) in
                taken t (inl (ap Some one)) more
            which true k (inr (inl is)) = taken t (inl (ap Some (sym is))) more
            which true k (inr (inr m)) = taken t (inr m) more
            which false k (inl is) = more (Some j) (inl is) under
            which false k (inr (inl is)) =
                let yes : r x j ≡ true = subst (λ y. r y j ≡ true) is (under j refl) in absurd (cc)
            which false k (inr (inr m)) = more (Some j) (inr m) under

        failed : test x ≡ false → (o ≡ Some e) ⊎ ((e ≡ x) ⊎ ((has xs e ≡ true) × (test e ≡ true)))
            → Comes o (x ∷ xs) e → Comes o xs e
        failed f (inl is) c = inl is
        failed f (inr (inl is)) (inl was) = inl was
        failed f (inr (inl is)) (inr (m, t)) = let no : test e ≡ false = ap test is ∙ f in absurd (cc)
        failed f (inr (inr m)) c = inr m

        by : (b : Bool) → test x ≡ b → Goes xs → lowest_from test r (cond b (lower r o x) o) xs ≡ Some e
        by true t more = passed o t under (split o comes) more
        by false t more = more o (failed t (split o comes) comes) under

    pub least-is : (xs : List ℕ) → has xs e ≡ true → test e ≡ true → IsUnderAll xs
        → lowest_from test r None xs ≡ Some e
    least-is xs m t below = least-from xs None (inr (m, t)) below (λ j is. absurd (cc))

-- along a list
module _ (test : ℕ → Bool) (r : ℕ → ℕ → Bool) where
  pub lowest-next : (xs : List ℕ) (i : ℕ) (old new all : Option ℕ) → i < length xs
      → new ≡ with_type test r old (get_or xs i 0) → lowest_from test r old (drop i xs) ≡ all
      → lowest_from test r new (drop (i + 1) xs) ≡ all
  lowest-next xs i old new all lt is h =
      ap (λ o. lowest_from test r o (drop (i + 1) xs)) is
      ∙ sym (ap (lowest_from test r old) (drop-next xs i 0 lt)) ∙ h
