-- The first that passes a test, by name and by number.
use Rattle.std.specs.Prelude.{◌≡◌, ℕ, Bool, true, false, cond, ◌||◌, List, [], ◌∷◌, ◌++◌, Option, None, Some, filter_map, eqb}
use Rattle.std.specs.List.{find, cons_option}
use Rattle.std.specs.Option.{option_or}
use Rattle.std.proofs.Common.{refl, inl, inr, ap, sym, subst, ◌∙◌, arith}
use Rattle.std.proofs.lemmas.Bool.Decides.{nat_tests}
use Rattle.std.proofs.lemmas.List.Folds.{find-append}
use Rattle.graphs.specs.Graphs.{has}
use Rattle.graphs.specs.Rounds.{added}
use Rattle.express_syntax.specs.Schemas.{Schema}
use Rattle.schema_semantics.specs.Names.{Name, IsFirst}
use Rattle.schema_names.specs.Numbers.{number_of, HasNumber}

module _ (test : ℕ → Bool) where
  or-none : (o : Option ℕ) → o ≡ option_or o None
  or-none None = refl
  or-none (Some x) = refl

  or-joined : (o p q : Option ℕ) → option_or (option_or o p) q ≡ option_or o (option_or p q)
  or-joined None p q = refl
  or-joined (Some x) p q = refl

  -- what stands in a list in which none passes
  fails : (xs : List ℕ) (y : ℕ) → has xs y ≡ true → find test xs ≡ None → test y ≡ false
  fails [] y h e = absurd (cc)
  fails (x ∷ xs) y h e = by (test x) refl e (fails xs y)
    where
      at : test x ≡ false → (b : Bool) → eqb y x ≡ b → (b || has xs y) ≡ true
          → (has xs y ≡ true → test y ≡ false) → test y ≡ false
      at t true same k rest = let is : y ≡ x = grind (arith, nat_tests) in ap test is ∙ t
      at t false same k rest = rest k

      by : (b : Bool) → test x ≡ b → cond b (Some x) (find test xs) ≡ None
          → (has xs y ≡ true → find test xs ≡ None → test y ≡ false) → test y ≡ false
      by true t e rest = absurd (cc)
      by false t e rest = at t (eqb y x) refl h (λ k. rest k e)

  first-joined : (y : ℕ) (ys : List ℕ) → option_or (find test (y ∷ [])) (find test ys) ≡ find test (y ∷ ys)
  first-joined y ys = by (test y)
    where
      by : (b : Bool) → option_or (cond b (Some y) None) (find test ys) ≡ cond b (Some y) (find test ys)
      by true = refl
      by false = refl

  -- the first is the same where each is taken once
  find-added : (xs ys : List ℕ) → find test (added xs ys) ≡ option_or (find test xs) (find test ys)
  find-added xs [] = or-none (find test xs)
  find-added xs (y ∷ ys) = find-added (cond (has xs y) xs (xs ++ y ∷ [])) ys ∙ by (has xs y) refl
    where
      behind : has xs y ≡ true → (o : Option ℕ) → find test xs ≡ o
          → option_or o (find test ys) ≡ option_or o (find test (y ∷ ys))
      behind h (Some x) e = refl
      behind h None e = sym (ap (λ b. cond b (Some y) (find test ys)) (fails xs y h e))

      by : (b : Bool) → has xs y ≡ b → option_or (find test (cond b xs (xs ++ y ∷ []))) (find test ys)
          ≡ option_or (find test xs) (find test (y ∷ ys))
      by true h = behind h (find test xs) refl
      by false h =
          ap (λ o. option_or o (find test ys)) (find-append test xs (y ∷ []))
          ∙ or-joined (find test xs) (find test (y ∷ [])) (find test ys)
          ∙ ap (option_or (find test xs)) (first-joined y ys)

  pub find-once : (xs : List ℕ) → find test (added [] xs) ≡ find test xs
  find-once xs = find-added [] xs

module _ (s : Schema) (P : Name → Type 0) (test : ℕ → Bool)
    (forth : (n : Name) (j : ℕ) → HasNumber s n j → test j ≡ true → P n)
    (back : (n : Name) (j : ℕ) → HasNumber s n j → P n → test j ≡ true)
    (counted : (n : Name) → P n → (j : ℕ) × HasNumber s n j) where
  pub first-forth : (ns : List Name) (j : ℕ) → find test (filter_map (number_of s) ns) ≡ Some j → (p : Name)
      × HasNumber s p j × IsFirst P ns p
  first-forth [] j e = absurd (cc)
  first-forth (n ∷ ns) j e = by (number_of s n) refl e (first-forth ns j)
    where
      behind : (P n → ⊥) → (p : Name) × HasNumber s p j × IsFirst P ns p
          → (p : Name) × HasNumber s p j × IsFirst P (n ∷ ns) p
      behind free (p, k, f) = (p, k, inr (free, f))

      at : (i : ℕ) → HasNumber s n i → (b : Bool) → test i ≡ b
          → cond b (Some i) (find test (filter_map (number_of s) ns)) ≡ Some j
          → (find test (filter_map (number_of s) ns) ≡ Some j → (p : Name) × HasNumber s p j × IsFirst P ns p)
          → (p : Name) × HasNumber s p j × IsFirst P (n ∷ ns) p
      at i k true t e later =
          let same : i ≡ j = cc in
          (n, subst (HasNumber s n) same k, inl (forth n i k t, refl))
      at i k false t e later = behind (λ m. clash (back n i k m)) (later e)
        where
          clash : test i ≡ true → ⊥
          clash h = cc

      by : (o : Option ℕ) → number_of s n ≡ o → find test (cons_option o (filter_map (number_of s) ns)) ≡ Some j
          → (find test (filter_map (number_of s) ns) ≡ Some j → (p : Name) × HasNumber s p j × IsFirst P ns p)
          → (p : Name) × HasNumber s p j × IsFirst P (n ∷ ns) p
      by None k e later = behind (λ m. clash (counted n m).0 (counted n m).1) (later e)
        where
          clash : (i : ℕ) → number_of s n ≡ Some i → ⊥
          clash i h = cc
      by (Some i) k e later = at i k (test i) refl e later

  pub first-back : (ns : List Name) (p : Name) → IsFirst P ns p → find test (filter_map (number_of s) ns) ≡ None → ⊥
  first-back [] p f e = f
  first-back (n ∷ ns) p f e = by (number_of s n) refl e f (first-back ns p)
    where
      at : (i : ℕ) → HasNumber s n i → (b : Bool) → test i ≡ b
          → cond b (Some i) (find test (filter_map (number_of s) ns)) ≡ None → IsFirst P (n ∷ ns) p
          → (IsFirst P ns p → find test (filter_map (number_of s) ns) ≡ None → ⊥) → ⊥
      at i k true t e f later = cc
      at i k false t e (inl (m, same)) later = clash (back n i k m)
        where
          clash : test i ≡ true → ⊥
          clash h = cc
      at i k false t e (inr (free, f)) later = later f e

      by : (o : Option ℕ) → number_of s n ≡ o → find test (cons_option o (filter_map (number_of s) ns)) ≡ None
          → IsFirst P (n ∷ ns) p → (IsFirst P ns p → find test (filter_map (number_of s) ns) ≡ None → ⊥) → ⊥
      by None k e (inl (m, same)) later = clash (counted n m).0 (counted n m).1
        where
          clash : (i : ℕ) → number_of s n ≡ Some i → ⊥
          clash i h = cc
      by None k e (inr (free, f)) later = later f e
      by (Some i) k e f later = at i k (test i) refl e f later
