-- Numbers of the places of which a predicate holds.
use Rattle.std.specs.Prelude.{◌≡◌, ℕ, ◌<◌, Bool, true, false, ◌||◌, List, [], ◌∷◌, ◌++◌, Some, length, eqb, ◌⊎◌, ◌↔◌}
use Rattle.std.proofs.Common.{refl, inl, inr, ap, sym, subst, ◌∙◌}
use Rattle.std.proofs.lemmas.Option.{slice_get_within}
use Rattle.std.proofs.lemmas.List.Folds.{list_any-append}
use Rattle.graphs.specs.Graphs.{has}
use Rattle.graphs.specs.Rounds.{added}
use Rattle.graphs.proofs.Found.{has-added}
use Rattle.express_syntax.specs.Schemas.{Schema}
use Rattle.schema_semantics.specs.Names.{OneOf}
use Rattle.schema_semantics.specs.Attributes.{Place, same_place}
use Rattle.schema_semantics.proofs.Placed.{is-same, same-itself}
use Rattle.schema_explicit_attributes.specs.Places.{all_places}
use Rattle.schema_redeclarations.specs.Uses.{HasPlace}
use Rattle.schema_redeclarations.specs.steps.Speaking.{ArePlacesOf}
use Rattle.schema_redeclarations.proofs.Those.{one-left, one-right, one-either}

some-is : (p q : Place) → Some p ≡ Some q → p ≡ q
some-is p q e = cc

either-has : (a b : Bool) → (a || b) ≡ true → (a ≡ true) ⊎ (b ≡ true)
either-has true b e = inl refl
either-has false b e = inr e

left-has : (a b : Bool) → a ≡ true → (a || b) ≡ true
left-has true b e = refl
left-has false b e = absurd (cc)

right-has : (a b : Bool) → b ≡ true → (a || b) ≡ true
right-has true b e = refl
right-has false b e = e

both-not : (P Q : Type 0) → (P → ⊥) → (Q → ⊥) → P ⊎ Q → ⊥
both-not P Q p q (inl h) = p h
both-not P Q p q (inr h) = q h

module _ (s : Schema) where
  pub no-place : (P : Place → Type 0) → ((p : Place) → P p → ⊥) → ArePlacesOf s P []
  no-place P none = record {
    decided = λ p. inr (none p);
    numbers = λ p q at. ((λ k. absurd (cc)), (λ k. absurd (none p k)));
    within = λ q k. absurd (cc);
  }

  -- P holds of one place alone
  pub one-place : (P : Place → Type 0) (p : Place) (ns : List ℕ) → ((q : Place) → P q ↔ (q ≡ p))
      → ((x : ℕ) → (has ns x ≡ true) ↔ HasPlace s p x) → ArePlacesOf s P ns
  one-place P p ns only at = record {
    decided = λ q. by q (same_place q p) refl;
    numbers = λ q x here. (
      (λ k. (only q).1 (some-is q p (sym here ∙ (at x).0 k))),
      (λ k. (at x).1 (subst (λ z. HasPlace s z x) ((only q).0 k) here)),
    );
    within = λ x k. slice_get_within (all_places s) x p ((at x).0 k);
  }
    where
      by : (q : Place) (b : Bool) → same_place q p ≡ b → P q ⊎ (P q → ⊥)
      by q true e = inl ((only q).1 (is-same q p e))
      by q false e = inr (λ k. differ (sym e ∙ ap (same_place q) (sym ((only q).0 k)) ∙ same-itself q))
        where
          differ : false ≡ true → ⊥
          differ h = cc

  pub places-alike : (P Q : Place → Type 0) (ns : List ℕ) → ((p : Place) → P p ↔ Q p) → ArePlacesOf s P ns
      → ArePlacesOf s Q ns
  places-alike P Q ns is h = record {
    decided = λ p. by p (h.decided p);
    numbers = λ p q at. ((λ k. (is p).0 ((h.numbers p q at).0 k)), (λ k. (h.numbers p q at).1 ((is p).1 k)));
    within = h.within;
  }
    where
      by : (p : Place) → P p ⊎ (P p → ⊥) → Q p ⊎ (Q p → ⊥)
      by p (inl k) = inl ((is p).0 k)
      by p (inr k) = inr (λ q. k ((is p).1 q))

  pub places-both : (P Q : Place → Type 0) (ms ns : List ℕ) → ArePlacesOf s P ms → ArePlacesOf s Q ns
      → ArePlacesOf s (λ p. P p ⊎ Q p) (ms ++ ns)
  places-both P Q ms ns h k = record {
    decided = λ p. by p (h.decided p) (k.decided p);
    numbers = λ p q at. (
      (λ e. sort p q at (either-has (has ms q) (has ns q) (sym (joined q) ∙ e))),
      (λ e. back p q at e),
    );
    within = λ q e. low q (either-has (has ms q) (has ns q) (sym (joined q) ∙ e));
  }
    where
      joined : (q : ℕ) → has (ms ++ ns) q ≡ (has ms q || has ns q)
      joined q = list_any-append (eqb q) ms ns

      by : (p : Place) → P p ⊎ (P p → ⊥) → Q p ⊎ (Q p → ⊥) → (P p ⊎ Q p) ⊎ (P p ⊎ Q p → ⊥)
      by p (inl x) d = inl (inl x)
      by p (inr x) (inl y) = inl (inr y)
      by p (inr x) (inr y) = inr (both-not (P p) (Q p) x y)

      sort : (p : Place) (q : ℕ) → HasPlace s p q → (has ms q ≡ true) ⊎ (has ns q ≡ true) → P p ⊎ Q p
      sort p q at (inl e) = inl ((h.numbers p q at).0 e)
      sort p q at (inr e) = inr ((k.numbers p q at).0 e)

      back : (p : Place) (q : ℕ) → HasPlace s p q → P p ⊎ Q p → has (ms ++ ns) q ≡ true
      back p q at (inl x) = joined q ∙ left-has (has ms q) (has ns q) ((h.numbers p q at).1 x)
      back p q at (inr y) = joined q ∙ right-has (has ms q) (has ns q) ((k.numbers p q at).1 y)

      low : (q : ℕ) → (has ms q ≡ true) ⊎ (has ns q ≡ true) → q < length (all_places s)
      low q (inl e) = h.within q e
      low q (inr e) = k.within q e

  -- each number once
  pub places-once : (P : Place → Type 0) (ns : List ℕ) → ArePlacesOf s P ns → ArePlacesOf s P (added [] ns)
  places-once P ns h = record {
    decided = h.decided;
    numbers = λ p q at. (
      (λ e. (h.numbers p q at).0 (sym (has-added [] ns q) ∙ e)),
      (λ k. has-added [] ns q ∙ (h.numbers p q at).1 k),
    );
    within = λ q e. h.within q (sym (has-added [] ns q) ∙ e);
  }

  -- of one of a list
  module _ {X : Type 0} (F : X → Place → Type 0) where
    pub places-none : ArePlacesOf s (λ p. OneOf (λ x. F x p) []) []
    places-none = no-place (λ p. OneOf (λ x. F x p) []) (λ p h. elim h [ ])

    pub places-more : (xs : List X) (x : X) (ms ns : List ℕ) → ArePlacesOf s (λ p. OneOf (λ y. F y p) xs) ms
        → ArePlacesOf s (F x) ns → ArePlacesOf s (λ p. OneOf (λ y. F y p) (xs ++ x ∷ [])) (ms ++ ns)
    places-more xs x ms ns h k =
        places-alike (λ p. OneOf (λ y. F y p) xs ⊎ F x p) (λ p. OneOf (λ y. F y p) (xs ++ x ∷ [])) (ms ++ ns) is
        (places-both (λ p. OneOf (λ y. F y p) xs) (F x) ms ns h k)
      where
        forth : (p : Place) → OneOf (λ y. F y p) xs ⊎ F x p → OneOf (λ y. F y p) (xs ++ x ∷ [])
        forth p (inl m) = one-left (λ y. F y p) xs (x ∷ []) m
        forth p (inr m) = one-right (λ y. F y p) xs (x ∷ []) (inl m)

        alone : (p : Place) → OneOf (λ y. F y p) xs ⊎ OneOf (λ y. F y p) (x ∷ []) → OneOf (λ y. F y p) xs ⊎ F x p
        alone p (inl m) = inl m
        alone p (inr (inl m)) = inr m
        alone p (inr (inr m)) = elim m [ ]

        is : (p : Place) → (OneOf (λ y. F y p) xs ⊎ F x p) ↔ OneOf (λ y. F y p) (xs ++ x ∷ [])
        is p = (forth p, λ m. alone p (one-either (λ y. F y p) xs (x ∷ []) m))
