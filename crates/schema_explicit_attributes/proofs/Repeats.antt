-- Numbers without repeats stand for places without repeats, where no place has two numbers.
use Rattle.std.specs.Prelude.{◌≡◌, ℕ, Bool, true, false, cond, ◌||◌, List, [], ◌∷◌, ◌++◌, Some, slice_get, eqb}
use Rattle.std.specs.List.{list_any}
use Rattle.std.proofs.Common.{refl, ap, sym, subst, ◌∙◌, arith}
use Rattle.std.proofs.lemmas.Bool.Decides.{nat_tests}
use Rattle.std.proofs.lemmas.List.{append_assoc, append-nil}
use Rattle.std.proofs.lemmas.List.Folds.{list_any-append}
use Rattle.graphs.specs.Graphs.{has}
use Rattle.graphs.specs.Rounds.{added}
use Rattle.schema_semantics.specs.Attributes.{Place, same_place, without, once}
use Rattle.schema_semantics.proofs.Placed.{is-same, same-itself}
use Rattle.schema_names.specs.Numbers.{AreAt}
use Rattle.schema_names.proofs.Items.{front-at, back-at, joined-at}

abbrev pub AreOne : List Place → Type 0
AreOne all = (a b : ℕ) (p : Place) → slice_get all a ≡ Some p → slice_get all b ≡ Some p → a ≡ b

turned : (a b : Bool) → (a || (b || false)) ≡ (b || a)
turned true true = refl
turned true false = refl
turned false true = refl
turned false false = refl

some-is : (p q : Place) → Some p ≡ Some q → p ≡ q
some-is p q h = cc

module _ (all : List Place) (one : AreOne all) where
  pub one-told : (y x : ℕ) (p q : Place) → slice_get all y ≡ Some p → slice_get all x ≡ Some q → eqb y x ≡ same_place p q
  one-told y x p q at here = by (eqb y x) refl (same_place p q) refl
    where
      by : (b : Bool) → eqb y x ≡ b → (c : Bool) → same_place p q ≡ c → b ≡ c
      by true e true f = refl
      by false e false f = refl
      by true e false f =
          let is : y ≡ x = grind (arith, nat_tests) in
          let same : p ≡ q = some-is p q (sym at ∙ ap (slice_get all) is ∙ here) in
          sym (same-itself p) ∙ ap (same_place p) same ∙ f
      by false e true f =
          let same = is-same p q f in
          let is = one y x q (at ∙ ap Some same) here in
          absurd (differ is)
        where
          differ : y ≡ x → ⊥
          differ is = grind (arith, nat_tests)

  -- whether a place is among places is told by its number
  told : (xs : List ℕ) (qs : List Place) → AreAt all xs qs → (y : ℕ) (p : Place) → slice_get all y ≡ Some p
      → has xs y ≡ list_any (same_place p) qs
  told [] [] h y p at = refl
  told [] (q ∷ qs) h y p at = absurd (cc)
  told (x ∷ xs) [] h y p at = absurd (cc)
  told (x ∷ xs) (q ∷ qs) h y p at =
      ap (λ b. b || has xs y) (one-told y x p q at (front-at all x xs q qs h))
      ∙ ap (λ b. same_place p q || b) (told xs qs (back-at all x xs q qs h) y p at)

  kept : (xs ys : List ℕ) (before qs ps : List Place)
      → ((p : Place) → list_any (same_place p) before ≡ list_any (same_place p) qs) → AreAt all xs qs → AreAt all ys ps
      → AreAt all (added xs ys) (qs ++ without before ps)
  kept xs [] before qs [] cover h k = subst (AreAt all xs) (sym (append-nil qs)) h
  kept xs [] before qs (p ∷ ps) cover h k = absurd (cc)
  kept xs (y ∷ ys) before qs [] cover h k = absurd (cc)
  kept xs (y ∷ ys) before qs (p ∷ ps) cover h k =
      by (has xs y) refl (kept xs ys before qs ps) (kept (xs ++ y ∷ []) ys (p ∷ before) (qs ++ p ∷ []) ps)
    where
      at : slice_get all y ≡ Some p
      at = front-at all y ys p ps k

      Goal : Bool → Bool → Type 0
      Goal c d =
          AreAt all (added (cond c xs (xs ++ y ∷ [])) ys)
          (qs ++ cond d (without before ps) (p ∷ without (p ∷ before) ps))

      cover-more : (q : Place) → list_any (same_place q) (p ∷ before) ≡ list_any (same_place q) (qs ++ p ∷ [])
      cover-more q =
          ap (λ b. same_place q p || b) (cover q)
          ∙ sym (turned (list_any (same_place q) qs) (same_place q p))
          ∙ sym (list_any-append (same_place q) qs (p ∷ []))

      by : (b : Bool) → has xs y ≡ b
          → (((q : Place) → list_any (same_place q) before ≡ list_any (same_place q) qs) → AreAt all xs qs
          → AreAt all ys ps → AreAt all (added xs ys) (qs ++ without before ps))
          → (((q : Place) → list_any (same_place q) (p ∷ before) ≡ list_any (same_place q) (qs ++ p ∷ []))
          → AreAt all (xs ++ y ∷ []) (qs ++ p ∷ []) → AreAt all ys ps
          → AreAt all (added (xs ++ y ∷ []) ys) ((qs ++ p ∷ []) ++ without (p ∷ before) ps))
          → Goal (has xs y) (list_any (same_place p) before)
      by b e old new =
          subst (λ c. Goal c (list_any (same_place p) before)) (sym e)
          (subst (Goal b) (sym (cover p ∙ sym (told xs qs h y p at) ∙ e)) (split b))
        where
          split : (c : Bool) → Goal c c
          split true = old cover h (back-at all y ys p ps k)
          split false =
              subst (AreAt all (added (xs ++ y ∷ []) ys)) (append_assoc qs (p ∷ []) (without (p ∷ before) ps))
              (new cover-more (joined-at all xs (y ∷ []) qs (p ∷ []) h (ap (λ o. o ∷ []) at)) (back-at all y ys p ps k))

  pub once-at : (ys : List ℕ) (ps : List Place) → AreAt all ys ps → AreAt all (added [] ys) (once ps)
  once-at ys ps h = kept [] ys [] [] ps (λ p. refl) refl h
