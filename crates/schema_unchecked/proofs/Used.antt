-- The rows of what derived attributes may use, and which are faulty.
use Rattle.std.specs.Prelude.{◌≡◌, ℕ, ◌<◌, Bool, true, false, cond, nat_lt, List, [], ◌∷◌, map, Option, Some, None, length, get_or, slice_get, eqb, ◌⊎◌, ◌↔◌}
use Rattle.std.proofs.Common.{refl, inl, inr, ap, sym, subst, ◌∙◌, arith, zero, suc}
use Rattle.std.proofs.lemmas.Bool.Decides.{nat_tests}
use Rattle.std.proofs.lemmas.List.{length-map}
use Rattle.graphs.specs.Graphs.{Graph, IsGraph, has, next}
use Rattle.graphs.proofs.Searching.{either}
use Rattle.express_syntax.specs.Schemas.{Schema, Derived}
use Rattle.schema_semantics.specs.declared.unchecked.Reason.{Reason}
use Rattle.schema_semantics.specs.Names.{OneOf, IsFirst}
use Rattle.schema_semantics.specs.Faults.{IsResolved}
use Rattle.schema_semantics.specs.Attributes.{Derivation, IsDerivation}
use Rattle.schema_semantics.specs.Ranks.{Self, Uses, HasOwnReason}
use Rattle.schema_semantics.specs.Reasons.{GivesReason, BodyMayUse}
use Rattle.schema_semantics.specs.Parts.{all_reasons}
use Rattle.schema_semantics.proofs.Lists.{first-holds}
use Rattle.schema_attributes.specs.Derivations.{all_derivations, HasDerivation, HoldsDerivation}
use Rattle.schema_derived_attributes.specs.AttributeRanks.{AreUses, AreFaulty}
use Rattle.schema_derived_attributes.proofs.Numbering.{stands-there}
use Rattle.schema_derived_attributes.proofs.Ranked.{below-end, something-at}
use Rattle.schema_unchecked.specs.declared.judgement.Judgement.{Judgement}
use Rattle.schema_unchecked.specs.steps.Judging.{IsFirstReason, IsJudged, AreJudged}
use Rattle.schema_unchecked.specs.steps.Surveyed.{below, uses_below, has_reason, is_faulty}

-- numbers below a bound
below-within : (n : ℕ) (xs : List ℕ) (k : ℕ) → has (below n xs) k ≡ true → k < n
below-within n [] k e = absurd (cc)
below-within n (x ∷ xs) k e = by (nat_lt x n) refl e (below-within n xs k)
  where
    by : (b : Bool) → nat_lt x n ≡ b → has (cond b (x ∷ below n xs) (below n xs)) k ≡ true
        → (has (below n xs) k ≡ true → k < n) → k < n
    by true is m more = which (either (eqb k x) (has (below n xs) k) m)
      where
        which : (eqb k x ≡ true) ⊎ (has (below n xs) k ≡ true) → k < n
        which (inl here) =
            let lt : x < n = grind (arith, nat_tests) in
            let same : k ≡ x = grind (arith, nat_tests) in
            omega (arith, lt, same)
        which (inr there) = more there
    by false is m more = more m

one-below : (P : ℕ → Type 0) (n : ℕ) (xs : List ℕ) → OneOf P (below n xs) → OneOf P xs
one-below P n [] h = h
one-below P n (x ∷ xs) h = by (nat_lt x n) h (one-below P n xs)
  where
    by : (b : Bool) → OneOf P (cond b (x ∷ below n xs) (below n xs)) → (OneOf P (below n xs) → OneOf P xs)
        → OneOf P (x ∷ xs)
    by true (inl p) more = inl p
    by true (inr m) more = inr (more m)
    by false m more = inr (more m)

below-one : (P : ℕ → Type 0) (n : ℕ) → ((k : ℕ) → P k → k < n) → (xs : List ℕ) → OneOf P xs → OneOf P (below n xs)
below-one P n lt [] h = h
below-one P n lt (x ∷ xs) h = by (nat_lt x n) refl h (below-one P n lt xs)
  where
    by : (b : Bool) → nat_lt x n ≡ b → OneOf P (x ∷ xs) → (OneOf P xs → OneOf P (below n xs))
        → OneOf P (cond b (x ∷ below n xs) (below n xs))
    by true is (inl p) more = inl p
    by true is (inr m) more = inr (more m)
    by false is (inl p) more =
        let under = lt x p in
        let yes : nat_lt x n ≡ true = grind (arith, nat_tests) in
        absurd (cc)
    by false is (inr m) more = more m

-- rows
row-there : {X : Type 0} (f : X → List ℕ) (xs : List X) (j : ℕ) (x : X) → slice_get xs j ≡ Some x
    → next (map f xs) j ≡ f x
row-there f [] j x e = absurd (cc)
row-there f (y ∷ xs) zero x e = let same : y ≡ x = cc in ap f same
row-there f (y ∷ xs) (suc j) x e = row-there f xs j x e

in-row : {X : Type 0} (f : X → List ℕ) (xs : List X) (j k : ℕ) → has (next (map f xs) j) k ≡ true → (x : X)
    × (has (f x) k ≡ true)
in-row f [] j k e = absurd (cc)
in-row f (y ∷ xs) zero k e = (y, e)
in-row f (y ∷ xs) (suc j) k e = in-row f xs j k e

mapped-there : {X Y : Type 0} (f : X → Y) (xs : List X) (j : ℕ) (x : X) → slice_get xs j ≡ Some x
    → slice_get (map f xs) j ≡ Some (f x)
mapped-there f [] j x e = absurd (cc)
mapped-there f (y ∷ xs) zero x e = let same : y ≡ x = cc in ap (λ z. Some (f z)) same
mapped-there f (y ∷ xs) (suc j) x e = mapped-there f xs j x e

module _ (s : Schema) (r : IsResolved s) (judged : List Judgement) (h : AreJudged s judged) where
  pub is-graph : IsGraph (map (uses_below (length judged)) judged)
  is-graph a b e =
      let (j, m) = in-row (uses_below (length judged)) judged a b e in
      let lt = below-within (length judged) j.uses.items b m in
      let same = length-map judged (uses_below (length judged)) in
      omega (arith, lt, same)

  -- what is said of the one of a number
  said : (j : ℕ) (d : Derivation) → HasDerivation s j d → (i : Judgement) × (slice_get judged j ≡ Some i)
      × ((x : Derived) → IsDerivation s d x → IsJudged s (Self d.0) x.body i)
  said j d k =
      let lt = below-end (all_derivations s) j d k in
      let same = h.same in
      let (i, at) = something-at judged j (omega (arith, lt, same)) in
      (i, at, (λ x der. h.each j d x i k der at))

  pub are-uses : AreUses s (map (uses_below (length judged)) judged)
  are-uses = record { same = length-map judged (uses_below (length judged)) ∙ h.same; each = each }
    where
      each : (j : ℕ) (d u : Derivation) → HasDerivation s j d
          → HoldsDerivation s (next (map (uses_below (length judged)) judged) j) u ↔ Uses s d u
      each j d u k = (forth, back)
        where
          forth : HoldsDerivation s (next (map (uses_below (length judged)) judged) j) u → Uses s d u
          forth m =
              let (i, at, is) = said j d k in
              let (x, der) = stands-there s r j d k in
              let there = subst (λ row. HoldsDerivation s row u) (row-there (uses_below (length judged)) judged j i at) m in
              (x, der, ((is x der).uses u).0 (one-below (λ n. HasDerivation s n u) (length judged) i.uses.items there))

          back : Uses s d u → HoldsDerivation s (next (map (uses_below (length judged)) judged) j) u
          back (x, der, may) =
              let (i, at, is) = said j d k in
              subst (λ row. HoldsDerivation s row u) (sym (row-there (uses_below (length judged)) judged j i at))
              (below-one (λ n. HasDerivation s n u) (length judged)
              (λ n e. (let lt = below-end (all_derivations s) n u e in let same = h.same in omega (arith, lt, same)))
              i.uses.items (((is x der).uses u).1 may))

  pub are-faulty : AreFaulty s (map is_faulty judged)
  are-faulty = record { same = length-map judged is_faulty ∙ h.same; each = each }
    where
      some-is : (a b : Bool) → Some a ≡ Some b → a ≡ b
      some-is a b e = cc

      each : (j : ℕ) (d : Derivation) → HasDerivation s j d → (slice_get (map is_faulty judged) j ≡ Some true)
          ↔ HasOwnReason s d
      each j d k = (forth, back)
        where
          given : (P : Reason → Type 0) (o : Option Reason) → IsFirstReason P o → has_reason o ≡ true
              → (q : Reason) × P q
          given P None first e = absurd (cc)
          given P (Some q) first e = (q, first-holds P all_reasons q first)

          taken : (P : Reason → Type 0) (o : Option Reason) → IsFirstReason P o → (q : Reason) → P q
              → has_reason o ≡ true
          taken P None first q p = absurd (first q p)
          taken P (Some o) first q p = refl

          forth : slice_get (map is_faulty judged) j ≡ Some true → HasOwnReason s d
          forth e =
              let (i, at, is) = said j d k in
              let (x, der) = stands-there s r j d k in
              let yes = some-is (is_faulty i) true (sym (mapped-there is_faulty judged j i at) ∙ e) in
              let (q, why) = given (GivesReason s (Self d.0) x.body) i.reason (is x der).reason yes in
              (x, der, q, why)

          back : HasOwnReason s d → slice_get (map is_faulty judged) j ≡ Some true
          back (x, der, q, why) =
              let (i, at, is) = said j d k in
              mapped-there is_faulty judged j i at
              ∙ ap Some (taken (GivesReason s (Self d.0) x.body) i.reason (is x der).reason q why)
